-- What a walk along the text of a tree keeps: what is left to do, and how deep each open sequence lies.
use Rattle.std.specs.Prelude.{◌≡◌, ℕ, ◌+◌, ◌-◌, ◌<◌, Bool, true, false, List, [], ◌∷◌, ◌++◌, drop, length, Option, Some, None, slice_get, slice_index_or, slice_set}
use Rattle.walrus_tree.specs.walrus_walks.walrus_instr.declared.instr.Instr.{Instr}
use Rattle.walrus_tree.specs.walrus_walks.walrus_instr.declared.instr.Instr.TheVariants.{Block, Loop, IfElse, Try, TryTable}
use Rattle.walrus_tree.specs.walrus_walks.walrus_instr.declared.instr.LegacyCatch.{LegacyCatch}
use Rattle.walrus_tree.specs.walrus_walks.walrus_instr.declared.instr.LegacyCatch.TheVariants as Legacy
use Rattle.walrus_tree.specs.walrus_walks.walrus_instr.declared.seq.InstrLocId.{InstrLocId}
use Rattle.walrus_tree.specs.walrus_walks.walrus_instr.declared.seq.InstrSeq.{InstrSeq}
use Rattle.walrus_tree.specs.declared.marks.Mark.{Mark}
use Rattle.walrus_tree.specs.declared.marks.Mark.TheVariants.{Open}
use Rattle.walrus_tree.specs.Text.{Piece, Else, Catch, CatchAll, Delegate, End, of_instrs, text}
use Rattle.walrus_body_text.specs.declared.todo.Closer.{Closer}
use Rattle.walrus_body_text.specs.declared.todo.Closer.TheVariants as closers
use Rattle.walrus_body_text.specs.declared.todo.Place.{Place}
use Rattle.walrus_body_text.specs.declared.todo.Todo.{Todo}
use Rattle.walrus_body_text.specs.declared.todo.Todo.TheVariants.{Enter, Inside}

-- a text: its pieces, each with its location
abbrev pub Text : Type 0
Text = List (Piece × InstrLocId)

-- what stands behind a sequence
abbrev pub piece_of : Closer → Piece
piece_of closers.Else = Else
piece_of (closers.Catch tag) = Catch tag
piece_of closers.CatchAll = CatchAll
piece_of (closers.Delegate depth) = Delegate depth
piece_of closers.End = End

-- ---- the list of what is left, of which the last is next

-- what stands behind the part of a legacy `try` that is before these
abbrev pub closer_before : List LegacyCatch → Closer
closer_before [] = closers.End
closer_before (Legacy.Catch tag _ ∷ _) = closers.Catch tag
closer_before (Legacy.CatchAll _ ∷ _) = closers.CatchAll
closer_before (Legacy.Delegate depth ∷ _) = closers.Delegate depth

-- the handlers of these parts, the last first
abbrev pub handling : List LegacyCatch → List Todo
handling [] = []
handling (Legacy.Catch _ k ∷ parts) = handling parts ++ Enter k (closer_before parts) ∷ []
handling (Legacy.CatchAll k ∷ parts) = handling parts ++ Enter k (closer_before parts) ∷ []
handling (Legacy.Delegate _ ∷ parts) = handling parts

-- the sequences that an instruction holds, the last first
abbrev pub entering : Instr → List Todo
entering (Block k) = Enter k closers.End ∷ []
entering (Loop k) = Enter k closers.End ∷ []
entering (IfElse k other) = Enter other closers.End ∷ Enter k closers.Else ∷ []
entering (Try k catches) = handling catches.items ++ Enter k (closer_before catches.items) ∷ []
entering (TryTable k _) = Enter k closers.End ∷ []
entering _ = []

-- whether it holds sequences
abbrev pub holds : Instr → Bool
holds (Block k) = true
holds (Loop k) = true
holds (IfElse k other) = true
holds (Try k catches) = true
holds (TryTable k catches) = true
holds _ = false

-- the sequences around the end of the list, innermost first, where `around` are those around its beginning
abbrev pub opened : List ℕ → List Todo → List ℕ
opened around [] = around
opened around (Enter _ _ ∷ ts) = opened around ts
opened around (Inside at ∷ ts) = opened (at.seq ∷ around) ts

-- the text of a sequence from a position on
abbrev pub rest_of : (ℕ → Piece → Text) → List ℕ → Piece → ℕ → Option InstrSeq → Text
rest_of t around p next (Some s) = of_instrs t around (drop next s.instrs.items) ++ (p, s.end) ∷ []
rest_of t around p next None = []

abbrev pub here : List InstrSeq → List ℕ → Todo → Text
here b around (Enter k c) = text b around k (piece_of c)
here b around (Inside at) = rest_of (text b (at.seq ∷ around)) (at.seq ∷ around) (piece_of at.closer) at.next (slice_get b at.seq)

-- the text of what is left
abbrev pub left : List InstrSeq → List ℕ → List Todo → Text
left b around [] = []
left b around (Enter k c ∷ ts) = left b around ts ++ here b around (Enter k c)
left b around (Inside at ∷ ts) = left b (at.seq ∷ around) ts ++ here b around (Inside at)

-- ---- how deep sequences lie

-- of each open sequence, innermost first, how many are around it
abbrev pub AreDeep : List ℕ → List ℕ → Type 0
AreDeep depths [] = Unit {0}
AreDeep depths (k ∷ ks) = (slice_get depths k ≡ Some (length ks)) × AreDeep depths ks

-- the number of a label, where so many sequences are open
abbrev pub label_by : List ℕ → ℕ → ℕ → ℕ
label_by depths height k = height - slice_index_or depths k 0 - 1

-- the sequence has a lower rank than each of these
abbrev pub IsBelow : (ℕ → ℕ) → ℕ → List ℕ → Type 0
IsBelow rank k [] = Unit {0}
IsBelow rank k (j ∷ js) = (rank k < rank j) × IsBelow rank k js

-- ranks fall from each sequence on the list to those inside it
abbrev pub AreRanked : (ℕ → ℕ) → List ℕ → List Todo → Type 0
AreRanked rank around [] = Unit {0}
AreRanked rank around (Enter k _ ∷ ts) = (0 < rank k) × IsBelow rank k around × AreRanked rank around ts
AreRanked rank around (Inside at ∷ ts) = (0 < rank at.seq) × IsBelow rank at.seq around × AreRanked rank (at.seq ∷ around) ts

-- ---- one step: what is next was taken from the list

abbrev pub place_of : Todo → Place
place_of (Enter k c) = record { seq = k; next = 0; closer = c }
place_of (Inside at) = at

abbrev pub depths_after : List ℕ → ℕ → Todo → List ℕ
depths_after depths height (Enter k _) = slice_set depths k height
depths_after depths height (Inside _) = depths

abbrev pub marks_after : List Mark → Todo → List Mark
marks_after ms (Enter k _) = slice_set ms k Open
marks_after ms (Inside _) = ms

abbrev pub height_after : ℕ → Todo → ℕ
height_after height (Enter _ _) = height + 1
height_after height (Inside _) = height

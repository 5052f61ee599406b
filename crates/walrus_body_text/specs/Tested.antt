-- The test of a tree along its text: what it keeps, and one step of it.
use Rattle.std.specs.Prelude.{◌≡◌, ◌↔◌, ◌≤◌, ℕ, ◌+◌, Bool, true, false, not, ◌&&◌, List, [], ◌∷◌, ◌++◌, drop, length, Option, Some, None, slice_get, slice_index_or}
use Rattle.walrus_tree.specs.walrus_walks.walrus_instr.declared.instr.Instr.{Instr}
use Rattle.walrus_tree.specs.walrus_walks.walrus_instr.declared.instr.Instr.TheVariants.{Br, BrIf, BrTable, BrOnNull, BrOnNonNull, BrOnCast, BrOnCastFail, Rethrow, Try, TryTable}
use Rattle.walrus_tree.specs.walrus_walks.walrus_instr.declared.seq.InstrLocId.{InstrLocId}
use Rattle.walrus_tree.specs.walrus_walks.walrus_instr.declared.seq.InstrSeq.{InstrSeq}
use Rattle.walrus_tree.specs.walrus_walks.Tree.{children, children_in}
use Rattle.walrus_tree.specs.declared.marks.Mark.{Mark}
use Rattle.walrus_tree.specs.declared.marks.Mark.TheVariants.{Fresh, Open, Done}
use Rattle.walrus_tree.specs.Testing.{AllFresh, Marked, within}
use Rattle.walrus_tree.specs.Trees.{AreDistinct, AreWithin, Trees, Nothing, Tree, ids, Stand, IsTree}
use Rattle.walrus_body_text.specs.declared.depths.Depths.{Depths}
use Rattle.walrus_body_text.specs.declared.todo.Place.{Place}
use Rattle.walrus_body_text.specs.declared.todo.Todo.{Todo}
use Rattle.walrus_body_text.specs.declared.todo.Todo.TheVariants.{Enter, Inside}
use Rattle.walrus_body_text.specs.Doing.{holds, opened, marks_after, height_after, place_of}
use Rattle.walrus_body_text.specs.Walking.{State, state}

-- ---- what is left, as a part of a tree

-- what a sequence has from a position on: its labels name what is around, and what it holds stands inside it
pub record StandsFrom (b : List InstrSeq) (around : List ℕ) (at : Place) (inside : Trees) : Type 0 where
  pub seq : InstrSeq
  pub found : slice_get b at.seq ≡ Some seq
  pub within : AreWithin (at.seq ∷ around) (drop at.next seq.instrs.items)
  pub stands : Stand b inside (at.seq ∷ around) (children_in (drop at.next seq.instrs.items))

-- what is left to enter stands as trees of these ids, in the order of the text: the last is next
abbrev pub Stands : List InstrSeq → List ℕ → List Todo → List ℕ → Type 0
Stands b around [] ks = ks ≡ []
Stands b around (Enter k c ∷ ts) ks =
    (later : List ℕ) × (inside : Trees) × (ks ≡ later ++ ids (Tree k inside Nothing)) × Stands b around ts later × Stand b (Tree k inside Nothing) around (k ∷ [])
Stands b around (Inside at ∷ ts) ks =
    (later : List ℕ) × (inside : Trees) × (ks ≡ later ++ ids inside) × Stands b (at.seq ∷ around) ts later × StandsFrom b around at inside

-- what is left to enter is a part of a tree, none of which was entered
pub record IsPart (b : List InstrSeq) (ms : List Mark) (ts : List Todo) : Type 0 where
  pub ids : List ℕ
  pub stands : Stands b [] ts ids
  pub fresh : AllFresh ms ids
  pub distinct : AreDistinct ids

-- ---- the test of one step

-- whether it may have a label, or a number that counts sequences around it
abbrev pub names_labels : Instr → Bool
names_labels (Br block) = true
names_labels (BrIf block) = true
names_labels (BrTable other blocks) = true
names_labels (BrOnNull block) = true
names_labels (BrOnNonNull block) = true
names_labels (BrOnCast block from to) = true
names_labels (BrOnCastFail block from to) = true
names_labels (Rethrow depth) = true
names_labels (Try k catches) = true
names_labels (TryTable k catches) = true
names_labels _ = false

abbrev pub is_fresh : Mark → Bool
is_fresh Fresh = true
is_fresh Open = false
is_fresh Done = false

-- the sequence is known, and wasn't entered
abbrev pub may_enter : List Mark → ℕ → Bool
may_enter ms k = is_fresh (slice_index_or ms k Done)

abbrev pub may_begin : List Mark → Todo → Bool
may_begin ms (Enter k _) = may_enter ms k
may_begin ms (Inside _) = true

-- the labels of what stands there name what is open
abbrev pub passes_in : List Mark → ℕ → Option (Instr × InstrLocId) → Bool
passes_in ms height (Some i) = within ms height i.0
passes_in ms height None = true

-- an instruction stands there that holds no sequence, and its labels name what is open
abbrev pub is_plain : List Mark → ℕ → Option (Instr × InstrLocId) → Bool
is_plain ms height (Some i) = not (holds i.0) && within ms height i.0
is_plain ms height None = false

abbrev pub passes_at : List Mark → ℕ → ℕ → Option InstrSeq → Bool
passes_at ms height next (Some s) = passes_in ms height (slice_get s.instrs.items next)
passes_at ms height next None = false

abbrev pub passes : List InstrSeq → Todo → State → Bool
passes b top s = may_begin s.marks top && passes_at (marks_after s.marks top) (height_after s.height top) (place_of top).next (slice_get b (place_of top).seq)

-- ---- turns that are left

abbrev pub turns_in : List (Instr × InstrLocId) → ℕ
turns_in [] = 0
turns_in (i ∷ is) = 1 + length (children i.0) + turns_in is

abbrev pub turns_from : ℕ → Option InstrSeq → ℕ
turns_from next (Some s) = turns_in (drop next s.instrs.items)
turns_from next None = 0

abbrev pub turns_of : List InstrSeq → Todo → ℕ
turns_of b (Enter k _) = 1
turns_of b (Inside at) = 1 + turns_from at.next (slice_get b at.seq)

abbrev pub turns : List InstrSeq → List Todo → ℕ
turns b [] = 0
turns b (t ∷ ts) = turns_of b t + turns b ts

abbrev pub fresh_turns : InstrSeq → Mark → ℕ
fresh_turns s Fresh = 1 + turns_in s.instrs.items
fresh_turns s Open = 0
fresh_turns s Done = 0

-- those of sequences that weren't entered
abbrev pub work : List InstrSeq → List Mark → ℕ
work [] ms = 0
work (s ∷ b) [] = 0
work (s ∷ b) (m ∷ ms) = fresh_turns s m + work b ms

-- ---- what the loop of the test keeps

-- the marks say what is open
pub record IsMarked (b : List InstrSeq) (s : State) : Type 0 where
  pub sized : length s.marks ≡ length b
  pub marked : Marked s.marks s.height (opened [] s.todo)

-- what is left is a part of a tree just where all of it is a tree
pub record IsTested (b : List InstrSeq) (entry : ℕ) (s : State) : Type 0 where
  pub marked : IsMarked b s
  pub forth : IsTree b entry → IsPart b s.marks s.todo
  pub back : IsPart b s.marks s.todo → IsTree b entry

-- behind these, what is next was tested from one place up to another, and no more is left
pub record SkipsIn (b : List InstrSeq) (d : Depths) (ts : List Todo) (top next : Todo) : Type 0 where
  pub marked : IsMarked b (state (ts ++ next ∷ []) d)
  pub parts : IsPart b d.marks.items (ts ++ top ∷ []) ↔ IsPart b d.marks.items (ts ++ next ∷ [])
  pub less : turns_of b next ≤ turns_of b top

abbrev pub Skips : List InstrSeq → Depths → Todo → Todo → Type 0
Skips b d top next = (ts : List Todo) → IsMarked b (state (ts ++ top ∷ []) d) → SkipsIn b d ts top next

-- The text of a body as the plain recursion over its sequences; what a tree adds.
use Rattle.std.specs.Prelude.{◌≡◌, ℕ, List, [], ◌∷◌, ◌++◌, length, Some, slice_get}
use Rattle.walrus_builder.specs.walrus_walks.walrus_instr.declared.instr.Instr.{Instr}
use Rattle.walrus_builder.specs.walrus_walks.walrus_instr.declared.seq.InstrLocId.{InstrLocId}
use Rattle.walrus_builder.specs.walrus_walks.walrus_instr.declared.seq.InstrSeq.{InstrSeq}
use Rattle.walrus_builder.specs.walrus_walks.Tree.{children, IsNested}
use Rattle.walrus_tree.specs.Trees.{IsWithin, IsTree}
use Rattle.walrus_tree.specs.Text.{Piece, Operator, after, of_instrs, text, operators}

-- the sequences that form a tree are nested
abbrev pub TreesAreNested : Type 0
TreesAreNested = (b : List InstrSeq) (entry : ℕ) → IsTree b entry → IsNested b entry

-- of each nested sequence: the text of its instructions, inside it and what is around it, then what stands behind it
abbrev pub IsPlainText : List InstrSeq → (List ℕ → ℕ → Piece → List (Piece × InstrLocId)) → Type 0
IsPlainText b t = (around : List ℕ) (k : ℕ) (p : Piece) (s : InstrSeq) → IsNested b k → slice_get b k ≡ Some s
    → t around k p ≡ of_instrs (t (k ∷ around)) (k ∷ around) s.instrs.items ++ (p, s.end) ∷ []

-- the text is the plain recursion
abbrev pub TextIsPlain : Type 0
TextIsPlain = (b : List InstrSeq) → IsPlainText b (text b)

-- what meets the plain recursion is the text
abbrev pub PlainTextIsOne : Type 0
PlainTextIsOne = (b : List InstrSeq) (plain : List ℕ → ℕ → Piece → List (Piece × InstrLocId)) → IsPlainText b plain
    → (around : List ℕ) (k : ℕ) (p : Piece) → IsNested b k → plain around k p ≡ text b around k p

-- an operator's labels name what is around it
abbrev pub IsSound : Piece → Type 0
IsSound (Operator around instr) = IsWithin around instr
IsSound _ = Unit {0}

abbrev pub AreSound : List (Piece × InstrLocId) → Type 0
AreSound [] = Unit {0}
AreSound (p ∷ ps) = IsSound p.0 × AreSound ps

-- in the text of a tree each label names a sequence around it
abbrev pub TreesAreSound : Type 0
TreesAreSound = (b : List InstrSeq) (entry : ℕ) → IsTree b entry → AreSound (operators b entry)

-- behind each sequence that an instruction of a tree holds stands one piece
abbrev pub PartsAreWhole : Type 0
PartsAreWhole = (around : List ℕ) (instr : Instr) → IsWithin around instr → length (after instr) ≡ length (children instr)

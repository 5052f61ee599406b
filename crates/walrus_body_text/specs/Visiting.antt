-- What a visitor is told of.
use Rattle.std.specs.Prelude.{◌≡◌, ◌⊎◌, ℕ, ◌+◌, List, [], ◌∷◌, ◌++◌, Some, slice_get}
use Rattle.std.specs.List.{FoldsTo}
use Rattle.walrus_body_env.specs.declared.error.BodyError.{BodyError}
use Rattle.walrus_body_env.specs.declared.error.BodyError.TheVariants.{NoTree}
use Rattle.walrus_tree.specs.walrus_walks.walrus_instr.declared.instr.Instr.{Instr}
use Rattle.walrus_tree.specs.walrus_walks.walrus_instr.declared.seq.InstrLocId.{InstrLocId}
use Rattle.walrus_tree.specs.walrus_walks.walrus_instr.declared.seq.InstrSeq.{InstrSeq}
use Rattle.walrus_tree.specs.Text.{Piece, Operator}
use Rattle.walrus_tree.specs.TextLaws.{TextIsPlain}
use Rattle.walrus_body_text.specs.declared.depths.Depths.{Depths}
use Rattle.walrus_body_text.specs.declared.todo.Todo.{Todo}
use Rattle.walrus_body_text.specs.declared.todo.Met.{Met}
use Rattle.walrus_body_text.specs.declared.todo.Met.TheVariants.{AnInstr, AnEnd}
use Rattle.walrus_body_text.specs.Doing.{Text, left, piece_of}
use Rattle.walrus_body_text.specs.Walking.{Good, State, state}

-- it was told of what was met
abbrev pub Visits : {V : Type 0} → (V → Piece × InstrLocId → V → Type 0) → List InstrSeq → Met → V → V → Type 0
Visits step b (AnInstr k at) old new = (q : InstrSeq) (i : Instr × InstrLocId) → slice_get b k ≡ Some q → slice_get q.instrs.items at ≡ Some i
    → (around : List ℕ) → step old (Operator around i.0, i.1) new
Visits step b (AnEnd c place) old new = step old (piece_of c, place) new

-- a first part of the text was told, and what the visitor held then it holds now
pub record ToldPart {V : Type 0} (step : V → Piece × InstrLocId → V → Type 0) (same : V → V → Type 0) (t : Text) (old new : V) : Type 0 where
  pub front : Text
  pub back : Text
  pub parts : t ≡ front ++ back
  pub last : V
  pub told : FoldsTo step old front last
  pub kept : (new ≡ last) ⊎ same last new

-- a first part of the text was told, and the text of what is left is the rest
pub record Tells {V : Type 0} (step : V → Piece × InstrLocId → V → Type 0) (b : List InstrSeq) (t : Text) (old : V) (s : State) (new : V) : Type 0 where
  pub good : Good b s
  pub front : Text
  pub parts : t ≡ front ++ left b [] s.todo
  pub told : FoldsTo step old front new

-- behind these, what was told up to one place of what is next was told up to another
abbrev pub TellsOn : {V : Type 0} → (V → Piece × InstrLocId → V → Type 0) → List InstrSeq → Todo → Todo → V → V → Type 0
TellsOn {V} step b top next old new = TextIsPlain → (all : Text) (first : V) (ts : List Todo) (d : Depths) → Tells step b all first (state (ts ++ top ∷ []) d) old
    → Tells step b all first (state (ts ++ next ∷ []) d) new

-- or memory was wanted there
abbrev pub TellsOff : {V : Type 0} → (V → Piece × InstrLocId → V → Type 0) → (V → V → Type 0) → List InstrSeq → Todo → V → V → Type 0
TellsOff {V} step same b top old new = TextIsPlain → (all : Text) (first : V) (ts : List Todo) (d : Depths) → Tells step b all first (state (ts ++ top ∷ []) d) old → ToldPart step same all first new

-- a body that is no tree leaves the visitor as it was; want of memory, with a first part told
abbrev pub IsLeft : {V : Type 0} → (V → Piece × InstrLocId → V → Type 0) → (V → V → Type 0) → Text → V → V → BodyError → Type 0
IsLeft step same t old new NoTree = new ≡ old
IsLeft step same t old new _ = ToldPart step same t old new

-- the size of a body: the count of its operators, but for those that only mark where sequences end
abbrev pub weight : Piece → ℕ
weight (Operator around instr) = 1
weight _ = 0

abbrev pub text_size : Text → ℕ
text_size [] = 0
text_size (p ∷ ps) = weight p.0 + text_size ps

-- One step along the text of a tree, and what a loop over it keeps.
use Rattle.std.specs.Prelude.{◌≡◌, ℕ, ◌+◌, ◌-◌, List, [], ◌∷◌, ◌++◌, length, Option, Some, None, slice_get, slice_set}
use Rattle.walrus_tree.specs.walrus_walks.walrus_instr.declared.instr.Instr.{Instr}
use Rattle.walrus_tree.specs.walrus_walks.walrus_instr.declared.seq.InstrLocId.{InstrLocId}
use Rattle.walrus_tree.specs.walrus_walks.walrus_instr.declared.seq.InstrSeq.{InstrSeq}
use Rattle.walrus_tree.specs.walrus_walks.Tree.{IsRank}
use Rattle.walrus_tree.specs.declared.marks.Mark.{Mark}
use Rattle.walrus_tree.specs.declared.marks.Mark.TheVariants.{Done}
use Rattle.walrus_tree.specs.Text.{Operator}
use Rattle.walrus_tree.specs.TextLaws.{AreSound}
use Rattle.walrus_tree.specs.Trees.{IsTree, IsWithin}
use Rattle.walrus_body_env.specs.declared.error.BodyError.{BodyError}
use Rattle.walrus_body_env.specs.declared.error.BodyError.TheVariants.{NoTree, Memory}
use Rattle.walrus_body_text.specs.declared.todo.Place.{Place}
use Rattle.walrus_body_text.specs.declared.todo.Todo.{Todo}
use Rattle.walrus_body_text.specs.declared.todo.Todo.TheVariants.{Inside}
use Rattle.walrus_body_text.specs.declared.todo.Closer.{Closer}
use Rattle.walrus_body_text.specs.declared.todo.Met.{Met}
use Rattle.walrus_body_text.specs.declared.todo.Met.TheVariants.{AnInstr, AnEnd}
use Rattle.walrus_body_text.specs.declared.depths.Depths.{Depths}
use Rattle.walrus_body_text.specs.Doing.{Text, piece_of, entering, opened, left, AreDeep, AreRanked, place_of, depths_after, height_after, marks_after}

-- the list of what is left, how far sequences were tested, how deep they lie and how many are open
pub record State : Type 0 where
  pub todo : List Todo
  pub marks : List Mark
  pub depths : List ℕ
  pub height : ℕ

abbrev pub state : List Todo → Depths → State
state todo d = record { todo = todo; marks = d.marks.items; depths = d.depths.items; height = d.height }

abbrev pub advanced : Place → Place
advanced at = record { seq = at.seq; next = at.next + 1; closer = at.closer }

-- an instruction stands there; what it holds and what is behind it is left
pub record MetInstr (top : Todo) (i : Instr × InstrLocId) (met : Met) (old new : State) : Type 0 where
  pub is : met ≡ AnInstr (place_of top).seq (place_of top).next
  pub marks : new.marks ≡ marks_after old.marks top
  pub depths : new.depths ≡ depths_after old.depths old.height top
  pub height : new.height ≡ height_after old.height top
  pub todo : new.todo ≡ (old.todo ++ Inside (advanced (place_of top)) ∷ []) ++ entering i.0

-- a sequence ends there
pub record MetEnd (top : Todo) (end : InstrLocId) (met : Met) (old new : State) : Type 0 where
  pub is : met ≡ AnEnd (place_of top).closer end
  pub marks : new.marks ≡ slice_set (marks_after old.marks top) (place_of top).seq Done
  pub depths : new.depths ≡ depths_after old.depths old.height top
  pub height : new.height ≡ height_after old.height top - 1
  pub todo : new.todo ≡ old.todo

abbrev pub AdvancesIn : Todo → Met → InstrSeq → Option (Instr × InstrLocId) → State → State → Type 0
AdvancesIn top met s (Some i) old new = MetInstr top i met old new
AdvancesIn top met s None old new = MetEnd top s.end met old new

abbrev pub AdvancesAt : Todo → Met → Option InstrSeq → State → State → Type 0
AdvancesAt top met (Some s) old new = AdvancesIn top met s (slice_get s.instrs.items (place_of top).next) old new
AdvancesAt top met None old new = Unit {0}

-- this was taken from the list, and there stands that
abbrev pub Advances : List InstrSeq → Todo → Met → State → State → Type 0
Advances b top met old new = AdvancesAt top met (slice_get b (place_of top).seq) old new

-- what is left can be entered, and its labels name what is around it
pub record Good (b : List InstrSeq) (s : State) : Type 0 where
  pub rank : ℕ → ℕ
  pub is_rank : IsRank b rank
  pub ranked : AreRanked rank [] s.todo
  pub deep : AreDeep s.depths (opened [] s.todo)
  pub height : s.height ≡ length (opened [] s.todo)
  pub sized : length s.depths ≡ length b
  pub sound : AreSound (left b [] s.todo)

-- what was met is the next piece of the text
pub record PassedInstr (b : List InstrSeq) (before : Text) (k at : ℕ) (new : State) : Type 0 where
  pub seq : InstrSeq
  pub item : Instr × InstrLocId
  pub around : List ℕ
  pub found : slice_get b k ≡ Some seq
  pub stands : slice_get seq.instrs.items at ≡ Some item
  pub deep : AreDeep new.depths around
  pub high : new.height ≡ length around
  pub within : IsWithin around item.0
  pub was : before ≡ (Operator around item.0, item.1) ∷ left b [] new.todo
  pub good : Good b new

pub record PassedEnd (b : List InstrSeq) (before : Text) (c : Closer) (place : InstrLocId) (new : State) : Type 0 where
  pub was : before ≡ (piece_of c, place) ∷ left b [] new.todo
  pub good : Good b new

abbrev pub Passed : List InstrSeq → Text → Met → State → Type 0
Passed b before (AnInstr k at) new = PassedInstr b before k at new
Passed b before (AnEnd c place) new = PassedEnd b before c place new

-- a refusal has its cause; that a growth was refused says nothing
abbrev pub IsCause : List InstrSeq → BodyError → Type 0
IsCause b NoTree = IsTree b 0 → ⊥
IsCause b Memory = Unit {0}
IsCause b _ = ⊥

-- One step of emission, and what its loop keeps.
use Rattle.std.specs.Prelude.{◌≡◌, List, [], ◌∷◌, ◌++◌, Option, Some, Result, Ok, Err, slice_get}
use Rattle.walrus_body_text.specs.walrus_tree.walrus_walks.walrus_instr.declared.instr.Instr.{Instr}
use Rattle.walrus_body_text.specs.walrus_tree.walrus_walks.walrus_instr.declared.seq.InstrLocId.{InstrLocId}
use Rattle.walrus_body_text.specs.walrus_tree.walrus_walks.walrus_instr.declared.seq.InstrSeq.{InstrSeq}
use Rattle.walrus_body_text.specs.walrus_tree.TextLaws.{TextIsPlain}
use Rattle.walrus_body_text.specs.declared.todo.Todo.{Todo}
use Rattle.walrus_body_text.specs.declared.todo.Met.{Met}
use Rattle.walrus_body_text.specs.declared.todo.Met.TheVariants.{AnInstr, AnEnd}
use Rattle.walrus_body_text.specs.declared.depths.Depths.{Depths}
use Rattle.walrus_body_text.specs.Doing.{piece_of, left, label_by}
use Rattle.walrus_body_text.specs.Walking.{Good, State, state}
use Rattle.walrus_body_writer.specs.declared.output.Output.{Output}
use Rattle.wasm_operators.specs.Operators.{Seen}
use Rattle.walrus_pairing.specs.Looks.{Look, Or}
use Rattle.walrus_pairing.specs.declared.error.PairError.{PairError}
use Rattle.walrus_body_writer.specs.Outputs.{PutsIf, IsSame, Wrote}
use Rattle.walrus_body_writer.specs.Refusals.{Gives, IsLarge, LeavesOff, value_in}
use Rattle.walrus_body_writer.specs.Spelled.{Text, written_instr, written}

-- what is to be written was, or it is refused and nothing was put there
abbrev pub IsDone : Type 0 → Or (Option Seen) → InstrLocId → Output → Output → Result (Unit {0}) PairError → Type 0
IsDone large a place old new (Ok _) = PutsIf a place old new
IsDone large a place old new (Err e) = Gives large a (Err e) × IsSame old new

-- so for what was met
abbrev pub Writes : Look → List InstrSeq → Met → State → Output → Output → Result (Unit {0}) PairError → Type 0
Writes look b (AnInstr k at) s old new result = (q : InstrSeq) (i : Instr × InstrLocId) → slice_get b k ≡ Some q → slice_get q.instrs.items at ≡ Some i
    → IsDone (IsLarge look (value_in b i.0)) (written_instr look b (label_by s.depths s.height) i.0) i.1 old new result
Writes look b (AnEnd c place) s old new result = IsDone ⊥ (written look b (piece_of c)) place old new result

-- a first part of the text was written, and the text of what is left is the rest
pub record Goes (look : Look) (b : List InstrSeq) (t : Text) (old : Output) (s : State) (out : Output) : Type 0 where
  pub good : Good b s
  pub front : Text
  pub parts : t ≡ front ++ left b [] s.todo
  pub wrote : Wrote look b front old out

-- behind these, what was written up to one place of what is next was written up to another
abbrev pub GoesOn : Look → List InstrSeq → Depths → Todo → Todo → Output → Output → Type 0
GoesOn look b d top next old new = TextIsPlain → (all : Text) (first : Output) (ts : List Todo) → Goes look b all first (state (ts ++ top ∷ []) d) old
    → Goes look b all first (state (ts ++ next ∷ []) d) new

-- or a piece there is refused
abbrev pub GoesOff : Look → List InstrSeq → Depths → Todo → PairError → Output → Output → Type 0
GoesOff look b d top e old new = TextIsPlain → (all : Text) (first : Output) (ts : List Todo) → Goes look b all first (state (ts ++ top ∷ []) d) old → LeavesOff look b all first e new

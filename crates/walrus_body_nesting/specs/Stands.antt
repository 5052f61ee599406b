-- When sequences stand as a tree.
use Rattle.std.specs.Prelude.{◌≡◌, ℕ, ◌+◌, ◌==◌, length, Bool, true, false, List, [], ◌∷◌, Option, Some, None, if◌then◌else◌, slice_get}
use Rattle.walrus_body_env.specs.walrus_instr.declared.instr.Instr.{Instr}
use Rattle.walrus_body_env.specs.walrus_instr.declared.instr.LegacyCatch.{LegacyCatch}
use Rattle.walrus_body_env.specs.walrus_instr.declared.instr.LegacyCatch.TheVariants as legacy
use Rattle.walrus_body_env.specs.walrus_instr.declared.seq.InstrLocId.{InstrLocId}
use Rattle.walrus_body_env.specs.walrus_instr.declared.seq.InstrSeqType.{InstrSeqType}
use Rattle.walrus_builder.specs.Built.{Seq}
use Rattle.wasm_body_grammar.specs.wasm_operators.Operators.{Seen}
use Rattle.wasm_normal_form.specs.Trees.{Tree, Close, Arm, Skip, Run, Nest}

-- what begins a further part of a block: an `else`, or the `catch` of a tag, or `catch_all`, of a legacy `try`
pub data Turn : Type 0 where
  Otherwise : Turn
  Handles : (tag : ℕ) → Turn
  HandlesAll : Turn

-- a part of a block behind its first
pub record Part : Type 0 where
  pub turn : Turn
  pub seq : ℕ

abbrev pub part : Turn → ℕ → Part
part turn k = record { turn = turn; seq = k }

-- what ends a block: `end`, or the `delegate` of a legacy `try`
pub data Finish : Type 0 where
  Ended : Finish
  Delegated : (depth : ℕ) → Finish

-- a block: its first sequence, its parts behind that, and what ends it
pub record Block : Type 0 where
  pub first : ℕ
  pub more : List Part
  pub finish : Finish

abbrev pub block : ℕ → List Part → Finish → Block
block k ms f = record { first = k; more = ms; finish = f }

-- the parts of a legacy `try` behind its first, and what ends it
abbrev pub parts_of : List LegacyCatch → List Part
parts_of [] = []
parts_of (legacy.Catch tag k ∷ cs) = part (Handles tag) k ∷ parts_of cs
parts_of (legacy.CatchAll k ∷ cs) = part HandlesAll k ∷ parts_of cs
parts_of (legacy.Delegate n ∷ cs) = []

abbrev pub finish_of : List LegacyCatch → Finish
finish_of [] = Ended
finish_of (legacy.Catch tag k ∷ cs) = finish_of cs
finish_of (legacy.CatchAll k ∷ cs) = finish_of cs
finish_of (legacy.Delegate n ∷ cs) = Delegated n

-- no part stands behind a `delegate`
abbrev pub EndsOnce : List LegacyCatch → Type 0
EndsOnce [] = Unit {0}
EndsOnce (legacy.Catch tag k ∷ cs) = EndsOnce cs
EndsOnce (legacy.CatchAll k ∷ cs) = EndsOnce cs
EndsOnce (legacy.Delegate n ∷ cs) = cs ≡ []

-- what instructions stand for, by the operators and the module that they were read from
pub record Meaning : Type 1 where
  -- inside these sequences, the innermost first, the instruction is this operator
  pub runs : List ℕ → Seen → Instr → Type 0
  -- it is the block that this operator opens
  pub nests : List ℕ → Seen → Instr → Block → Type 0
  -- the block that it opens is of this type
  pub opens : Seen → InstrSeqType → Type 0
  -- in a block of this type it begins this part, of that type
  pub turns : InstrSeqType → Seen → Turn → InstrSeqType → Type 0
  -- it ends a block so
  pub ends : Seen → Finish → Type 0

-- the place that a location stands for, if it stands for one
abbrev pub place_in : InstrLocId → Option ℕ
place_in place = if place.0 == 4294967295 then None else Some place.0

-- the sequences that were met, and one more
abbrev pub with : ℕ → (ℕ → Bool) → ℕ → Bool
with k met j = if j == k then true else met j

abbrev pub none : ℕ → Bool
none j = false

-- inside the sequences around it, in sequence k of a block of this type, these instructions up to the end e, and then the further parts of the
-- block up to f, stand as the tree; no sequence that is entered was met before, and `done` are those that were met then
abbrev pub lies : Meaning → Tree → List Seq → List ℕ → ℕ → InstrSeqType → (ℕ → Bool) → List (Instr × InstrLocId) → InstrLocId → List Part → Finish → (ℕ → Bool) → Type 0
lies m (Close o p) b around k ty met [] e [] f done = m.ends o f × (p ≡ place_in e) × (done ≡ met)
lies m (Arm o p t) b around k ty met [] e (n ∷ ms) f done =
    (p ≡ place_in e) × (met n.seq ≡ false) × (s : Seq) × (slice_get b n.seq ≡ Some s) × m.turns ty o n.turn s.ty
    × lies m t b around n.seq ty (with n.seq met) s.instrs s.end ms f done
lies m (Run o p t) b around k ty met (i ∷ is) e ms f done = m.runs (k ∷ around) o i.0 × (p ≡ place_in i.1) × lies m t b around k ty met is e ms f done
lies m (Nest o p u t) b around k ty met (i ∷ is) e ms f done =
    (q : Block) × m.nests (k ∷ around) o i.0 q × (p ≡ place_in i.1) × (met q.first ≡ false) × (s : Seq) × (slice_get b q.first ≡ Some s) × m.opens o s.ty × (half : ℕ → Bool)
    × lies m u b (k ∷ around) q.first s.ty (with q.first met) s.instrs s.end q.more q.finish half × lies m t b around k ty half is e ms f done
lies _ _ _ _ _ _ _ _ _ _ _ _ = ⊥

-- the sequence, of a block of this type, is entered and stands as the tree
pub record Enters (m : Meaning) (b : List Seq) (around : List ℕ) (k : ℕ) (ty : InstrSeqType) (met : ℕ → Bool) (ms : List Part) (f : Finish) (t : Tree) (done : ℕ → Bool) : Type 0 where
  pub seq : Seq
  pub fresh : met k ≡ false
  pub found : slice_get b k ≡ Some seq
  pub typed : seq.ty ≡ ty
  pub lie : lies m t b around k ty (with k met) seq.instrs seq.end ms f done

-- the operators of a tree, but for those that only mark where sequences end
abbrev pub tree_size : Tree → ℕ
tree_size (Close o p) = 0
tree_size (Arm o p t) = tree_size t
tree_size (Skip o p t) = tree_size t
tree_size (Run o p t) = tree_size t + 1
tree_size (Nest o p u t) = tree_size u + tree_size t + 1

-- the instructions of all sequences
abbrev pub total : List Seq → ℕ
total [] = 0
total (s ∷ b) = length s.instrs + total b

-- the sequences of a body, from its own on, stand as the tree, and what isn't entered holds nothing
pub record StandsAs (m : Meaning) (b : List Seq) (t : Tree) : Type 0 where
  pub ty : InstrSeqType
  pub done : ℕ → Bool
  pub enters : Enters m b [] 0 ty none [] Ended t done
  pub just : total b ≡ tree_size t

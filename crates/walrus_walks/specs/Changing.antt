-- The walk that changes: how it leaves its visitor and the sequences.
use Rattle.std.specs.Prelude.{◌≡◌, ℕ, List, Some, slice_get, slice_set}
use Rattle.std.specs.List.{FoldsTo}
use Rattle.walrus_instr.specs.declared.instr.Instr.{Instr}
use Rattle.walrus_instr.specs.declared.seq.InstrLocId.{InstrLocId}
use Rattle.walrus_instr.specs.declared.seq.InstrSeq.{InstrSeq}
use Rattle.walrus_walks.specs.Events.{Event, StartOf, EndOf, Visits}
use Rattle.walrus_walks.specs.Changes.{Threads, BlockTypeChanged, InstrChanged}
use Rattle.walrus_walks.specs.Fronts.{FoldsFront}
use Rattle.walrus_walks.specs.Order.{order}

-- an instruction with its location was handed over, then what the instruction left there names
abbrev pub ItemChanged : {V : Type 0} → (V → Event → Event → V → Type 0) → V → Instr × InstrLocId → V → Instr × InstrLocId → Type 0
ItemChanged {V} step v x w y = (u : V) × (i : Instr) × step v (Visits x.0 x.1) (Visits i y.1) u × InstrChanged step u i w y.0

-- what the block type of a sequence names was handed over; all else in it stays
pub record TypeChanged {V : Type 0} (step : V → Event → Event → V → Type 0) (v : V) (s : InstrSeq) (w : V) (t : InstrSeq) : Type 0 where
  pub changed : BlockTypeChanged step v s.ty w t.ty
  pub id : t.id ≡ s.id
  pub instrs : t.instrs ≡ s.instrs
  pub end : t.end ≡ s.end

-- the instructions of a sequence were handed over one by one; all else in it stays
pub record ItemsChanged {V : Type 0} (step : V → Event → Event → V → Type 0) (v : V) (s : InstrSeq) (w : V) (t : InstrSeq) : Type 0 where
  pub changed : Threads (ItemChanged step) v s.instrs.items w t.instrs.items
  pub id : t.id ≡ s.id
  pub ty : t.ty ≡ s.ty
  pub end : t.end ≡ s.end

-- a sequence was handed over at its start, then what its block type names, its instructions, and the sequence at its end
pub record SeqChanged {V : Type 0} (step : V → Event → Event → V → Type 0) (v : V) (s : InstrSeq) (w : V) (t : InstrSeq) : Type 0 where
  pub begun : V
  pub begun_seq : InstrSeq
  pub typed : V
  pub typed_seq : InstrSeq
  pub filled : V
  pub filled_seq : InstrSeq
  pub starts : step v (StartOf s) (StartOf begun_seq) begun
  pub types : TypeChanged step begun begun_seq typed typed_seq
  pub fills : ItemsChanged step typed typed_seq filled filled_seq
  pub ends : step filled (EndOf filled_seq) (EndOf t) w

-- the sequence k was changed, and no other
pub record SeqVisited {V : Type 0} (step : V → Event → Event → V → Type 0) (p : V × List InstrSeq) (k : ℕ) (q : V × List InstrSeq) : Type 0 where
  pub seq : InstrSeq
  pub changed_seq : InstrSeq
  pub known : slice_get p.1 k ≡ Some seq
  pub changed : SeqChanged step p.0 seq q.0 changed_seq
  pub stored : q.1 ≡ slice_set p.1 k changed_seq

-- the sequences of a nest were changed one after the other, a sequence before what it holds
abbrev pub Walked : {V : Type 0} → (V → Event → Event → V → Type 0) → V → List InstrSeq → ℕ → V → List InstrSeq → Type 0
Walked step v b start w c = FoldsTo (SeqVisited step) (v, b) (order b start) (w, c)

-- the same of a part from the front
abbrev pub WalkedPart : {V : Type 0} → (V → Event → Event → V → Type 0) → V → List InstrSeq → ℕ → V → List InstrSeq → Type 0
WalkedPart step v b start w c = FoldsFront (SeqVisited step) (v, b) (order b start) (w, c)

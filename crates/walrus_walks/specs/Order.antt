-- The order in which the walk that changes takes the sequences.
use Rattle.std.specs.Prelude.{ℕ, zero, suc, List, [], ◌∷◌, ◌++◌, Option, Some, None, length, slice_get}
use Rattle.walrus_instr.specs.declared.instr.Instr.{Instr}
use Rattle.walrus_instr.specs.declared.seq.InstrLocId.{InstrLocId}
use Rattle.walrus_instr.specs.declared.seq.InstrSeq.{InstrSeq}
use Rattle.walrus_walks.specs.Tree.{children}

-- the sequences that these instructions hold, those of the last instruction first
abbrev pub last_first : List (Instr × InstrLocId) → List ℕ
last_first [] = []
last_first (i ∷ is) = last_first is ++ children i.0

-- the sequences that a sequence holds, in the order in which they are taken
abbrev pub held_by : InstrSeq → List ℕ
held_by s = last_first s.instrs.items

-- the order of several, where `order` is that of one
abbrev pub orders : (ℕ → List ℕ) → List ℕ → List ℕ
orders order [] = []
orders order (k ∷ ks) = order k ++ orders order ks

-- a sequence, then what it holds
abbrev pub order_of : (ℕ → List ℕ) → ℕ → Option InstrSeq → List ℕ
order_of order k (Some s) = k ∷ orders order (held_by s)
order_of order k None = []

-- the order down to this depth
abbrev pub order_within : List InstrSeq → ℕ → ℕ → List ℕ
order_within b zero k = []
order_within b (suc n) k = order_of (order_within b n) k (slice_get b k)

-- the order from the sequence k on: a nest is no deeper than it has sequences
abbrev pub order : List InstrSeq → ℕ → List ℕ
order b k = order_within b (length b) k

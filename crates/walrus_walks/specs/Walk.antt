-- The walk of a nest of sequences, as the list of what it tells.
use Rattle.std.specs.Prelude.{ℕ, zero, suc, List, [], ◌∷◌, ◌++◌, Option, Some, None, length, slice_get}
use Rattle.walrus_instr.specs.declared.instr.Instr.{Instr}
use Rattle.walrus_instr.specs.declared.seq.InstrLocId.{InstrLocId}
use Rattle.walrus_instr.specs.declared.seq.InstrSeq.{InstrSeq}
use Rattle.walrus_walks.specs.Tree.{children}
use Rattle.walrus_walks.specs.Events.{Event, StartOf, EndOf, Visits, names, block_names, events_of}

-- the walk of instructions, where `walk` is that of a sequence: each with what it names, then what it holds
abbrev pub of_items : (ℕ → List Event) → List (Instr × InstrLocId) → List Event
of_items walk [] = []
of_items walk (i ∷ is) = Visits i.0 i.1 ∷ (names i.0 ++ (events_of walk (children i.0) ++ of_items walk is))

-- the walk of a sequence: its start, what its block type names, its instructions, its end
abbrev pub of_seq : (ℕ → List Event) → Option InstrSeq → List Event
of_seq walk (Some s) = StartOf s ∷ (block_names s.ty ++ (of_items walk s.instrs.items ++ EndOf s ∷ []))
of_seq walk None = []

-- the walk down to this depth
abbrev pub walk_within : List InstrSeq → ℕ → ℕ → List Event
walk_within b zero k = []
walk_within b (suc n) k = of_seq (walk_within b n) (slice_get b k)

-- the walk of the sequence k: a nest is no deeper than it has sequences
abbrev pub walk : List InstrSeq → ℕ → List Event
walk b k = walk_within b (length b) k

-- the walk of a body by its own sequence, but for what that sequence's block type names
abbrev pub body_walk : List InstrSeq → ℕ → List Event
body_walk b k = of_body (slice_get b k)
  where
    of_body : Option InstrSeq → List Event
    of_body (Some s) = StartOf s ∷ (of_items (walk b) s.instrs.items ++ EndOf s ∷ [])
    of_body None = []

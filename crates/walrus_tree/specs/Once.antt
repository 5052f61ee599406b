-- The walk of a tree meets each sequence of it once.
use Rattle.std.specs.Prelude.{◌≡◌, ℕ, List, [], ◌∷◌, map, Some, slice_get}
use Rattle.walrus_builder.specs.walrus_walks.walrus_instr.declared.seq.InstrSeq.{InstrSeq}
use Rattle.walrus_builder.specs.walrus_walks.Events.{Event, StartOf}
use Rattle.walrus_builder.specs.walrus_walks.Walk.{walk}
use Rattle.walrus_tree.specs.Trees.{Nothing, Tree, ids, IsTree}

-- the sequences that begin in a walk, in their order
abbrev pub begun : List Event → List InstrSeq
begun [] = []
begun (StartOf s ∷ es) = s ∷ begun es
begun (_ ∷ es) = begun es

-- what begins in the walk of a tree are the sequences of its ids, one by one; no id stands twice among them
abbrev pub TreesAreWalkedOnce : Type 0
TreesAreWalkedOnce = (b : List InstrSeq) (entry : ℕ) (t : IsTree b entry) → map Some (begun (walk b entry)) ≡ map (slice_get b) (ids (Tree entry t.inside Nothing))

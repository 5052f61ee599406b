-- The walks of nested sequences as plain recursions, with no bound on their depth.
use Rattle.std.specs.Prelude.{◌≡◌, ◌↔◌, ℕ, ◌<◌, ◌≤◌, List, [], ◌∷◌, ◌++◌, length, map, Some, slice_get, All}
use Rattle.std.specs.List.{FoldsTo}
use Rattle.walrus_instr.specs.declared.seq.InstrSeq.{InstrSeq}
use Rattle.walrus_walks.specs.Tree.{children_in, IsRank, IsNested}
use Rattle.walrus_walks.specs.Events.{Event, StartOf, EndOf, block_names}
use Rattle.walrus_walks.specs.Walk.{of_items, walk, body_walk}
use Rattle.walrus_walks.specs.Order.{held_by, orders, order}
use Rattle.walrus_walks.specs.Changing.{SeqVisited}

-- the sequences that a nested sequence holds are nested
abbrev pub HeldAreNested : Type 0
HeldAreNested = (b : List InstrSeq) (k : ℕ) (s : InstrSeq) → IsNested b k → slice_get b k ≡ Some s → All (IsNested b) (children_in s.instrs.items)

-- a nested sequence has a rank, and no rank need pass the number of sequences
abbrev pub RanksFit : Type 0
RanksFit = (b : List InstrSeq) (k : ℕ) → IsNested b k → (rank : ℕ → ℕ) × IsRank b rank × (0 < rank k) × ((j : ℕ) → rank j ≤ length b)

-- of each nested sequence: its start, what its block type names, its instructions with the walks of what they hold, its end
abbrev pub IsPlainWalk : List InstrSeq → (ℕ → List Event) → Type 0
IsPlainWalk b w = (k : ℕ) (s : InstrSeq) → IsNested b k → slice_get b k ≡ Some s
    → w k ≡ StartOf s ∷ (block_names s.ty ++ (of_items w s.instrs.items ++ EndOf s ∷ []))

-- the walk is the plain recursion
abbrev pub WalkIsPlain : Type 0
WalkIsPlain = (b : List InstrSeq) → IsPlainWalk b (walk b)

-- what meets the plain recursion is the walk
abbrev pub PlainWalkIsOne : Type 0
PlainWalkIsOne = (b : List InstrSeq) (plain : ℕ → List Event) → IsPlainWalk b plain → (k : ℕ) → IsNested b k → plain k ≡ walk b k

-- the walk of a body is the walk of its own sequence without what follows the start: what the block type names
abbrev pub BodyWalkIsWalk : Type 0
BodyWalkIsWalk = (b : List InstrSeq) (k : ℕ) (s : InstrSeq) → IsNested b k → slice_get b k ≡ Some s
    → (rest : List Event) × (walk b k ≡ StartOf s ∷ (block_names s.ty ++ rest)) × (body_walk b k ≡ StartOf s ∷ rest)

-- of each nested sequence: itself, then the orders of what it holds
abbrev pub IsPlainOrder : List InstrSeq → (ℕ → List ℕ) → Type 0
IsPlainOrder b o = (k : ℕ) (s : InstrSeq) → IsNested b k → slice_get b k ≡ Some s → o k ≡ k ∷ orders o (held_by s)

-- the order of the walk that changes is the plain recursion
abbrev pub OrderIsPlain : Type 0
OrderIsPlain = (b : List InstrSeq) → IsPlainOrder b (order b)

-- what meets that recursion is the order
abbrev pub PlainOrderIsOne : Type 0
PlainOrderIsOne = (b : List InstrSeq) (plain : ℕ → List ℕ) → IsPlainOrder b plain → (k : ℕ) → IsNested b k → plain k ≡ order b k

-- sequences that hold the same have the same order, as those before and after a walk that changes
abbrev pub OrderIsKept : Type 0
OrderIsKept = (b c : List InstrSeq) → map held_by c ≡ map held_by b → (k : ℕ) → order c k ≡ order b k

-- the sequences of the order from k on were changed one after the other: `Walked` is this from the start
abbrev pub WalkedFrom : {V : Type 0} → (V → Event → Event → V → Type 0) → List InstrSeq → V × List InstrSeq → ℕ → V × List InstrSeq → Type 0
WalkedFrom step b p k q = FoldsTo (SeqVisited step) p (order b k) q

-- of each nested sequence: it was changed, then what it holds was walked, one after the other
abbrev pub ChangesArePlain : {V : Type 0} → (V → Event → Event → V → Type 0) → Type 0
ChangesArePlain {V} step = (b : List InstrSeq) (k : ℕ) (s : InstrSeq) (p q : V × List InstrSeq) → IsNested b k → slice_get b k ≡ Some s
    → WalkedFrom step b p k q ↔ ((m : V × List InstrSeq) × SeqVisited step p k m × FoldsTo (WalkedFrom step b) m (held_by s) q)

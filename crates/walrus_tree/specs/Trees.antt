-- When the sequences that an entry reaches form a tree in which each label names a sequence around it.
use Rattle.std.specs.Prelude.{◌≡◌, ℕ, ◌<◌, ◌⊎◌, List, [], ◌∷◌, ◌++◌, length, map, Some, slice_get}
use Rattle.walrus_builder.specs.walrus_walks.walrus_instr.declared.instr.Instr.{Instr}
use Rattle.walrus_builder.specs.walrus_walks.walrus_instr.declared.instr.Instr.TheVariants.{Try, TryTable, Br, BrIf, BrTable, BrOnNull, BrOnNonNull, BrOnCast, BrOnCastFail, Rethrow}
use Rattle.walrus_builder.specs.walrus_walks.walrus_instr.declared.instr.LegacyCatch.{LegacyCatch}
use Rattle.walrus_builder.specs.walrus_walks.walrus_instr.declared.instr.LegacyCatch.TheVariants as Legacy
use Rattle.walrus_builder.specs.walrus_walks.walrus_instr.declared.instr.TryTableCatch.{TryTableCatch}
use Rattle.walrus_builder.specs.walrus_walks.walrus_instr.declared.instr.TryTableCatch.TheVariants as Clause
use Rattle.walrus_builder.specs.walrus_walks.walrus_instr.declared.seq.InstrLocId.{InstrLocId}
use Rattle.walrus_builder.specs.walrus_walks.walrus_instr.declared.seq.InstrSeq.{InstrSeq}
use Rattle.walrus_builder.specs.walrus_walks.Tree.{children_in}

-- the id stands in the list
abbrev pub Has : List ℕ → ℕ → Type 0
Has [] k = ⊥
Has (j ∷ js) k = (j ≡ k) ⊎ Has js k

-- each of these ids stands in the list
abbrev pub HasAll : List ℕ → List ℕ → Type 0
HasAll js [] = Unit {0}
HasAll js (k ∷ ks) = Has js k × HasAll js ks

-- no id stands twice
abbrev pub AreDistinct : List ℕ → Type 0
AreDistinct [] = Unit {0}
AreDistinct (k ∷ ks) = (Has ks k → ⊥) × AreDistinct ks

-- the label of a clause of `try_table`
abbrev pub clause_label : TryTableCatch → ℕ
clause_label (Clause.Catch tag label) = label
clause_label (Clause.CatchRef tag label) = label
clause_label (Clause.CatchAll label) = label
clause_label (Clause.CatchAllRef label) = label

-- the sequences that the labels of an instruction name (Core Specification, labels)
abbrev pub labels : Instr → List ℕ
labels (TryTable _ catches) = map clause_label catches.items
labels (Br block) = block ∷ []
labels (BrIf block) = block ∷ []
labels (BrTable other blocks) = blocks.items ++ other ∷ []
labels (BrOnNull block) = block ∷ []
labels (BrOnNonNull block) = block ∷ []
labels (BrOnCast block _ _) = block ∷ []
labels (BrOnCastFail block _ _) = block ∷ []
labels _ = []

-- a `delegate` is the last part of its `try`, and its number is below n
abbrev pub Delegates : ℕ → List LegacyCatch → Type 0
Delegates n [] = Unit {0}
Delegates n (Legacy.Catch _ _ ∷ parts) = Delegates n parts
Delegates n (Legacy.CatchAll _ ∷ parts) = Delegates n parts
Delegates n (Legacy.Delegate depth ∷ parts) = (depth < n) × (parts ≡ [])

-- the labels that are numbers, those of `rethrow` and `delegate`, are below n
abbrev pub Counts : ℕ → Instr → Type 0
Counts n (Rethrow depth) = depth < n
Counts n (Try _ catches) = Delegates n catches.items
Counts n _ = Unit {0}

-- each label of the instruction names one of the sequences around it, innermost first
pub record IsWithin (around : List ℕ) (instr : Instr) : Type 0 where
  pub named : HasAll around (labels instr)
  pub counted : Counts (length around) instr

-- each of these instructions is so
abbrev pub AreWithin : List ℕ → List (Instr × InstrLocId) → Type 0
AreWithin around [] = Unit {0}
AreWithin around (i ∷ is) = IsWithin around i.0 × AreWithin around is

-- a tree of ids with what is inside it, and the trees beside it, in the order of the text
pub data Trees : Type 0 where
  Nothing : Trees
  Tree : (id : ℕ) (inside : Trees) (beside : Trees) → Trees

-- its ids, in the order of the text
abbrev pub ids : Trees → List ℕ
ids Nothing = []
ids (Tree id inside beside) = id ∷ (ids inside ++ ids beside)

-- inside the sequences around them, these sequences stand as the trees: each is known, its labels name it or what is
-- around it, and what it holds stands inside it
abbrev pub Stand : List InstrSeq → Trees → List ℕ → List ℕ → Type 0
Stand b Nothing around [] = Unit {0}
Stand b (Tree id inside beside) around (k ∷ ks) =
    (id ≡ k) × (s : InstrSeq) × (slice_get b k ≡ Some s) × AreWithin (k ∷ around) s.instrs.items
    × Stand b inside (k ∷ around) (children_in s.instrs.items) × Stand b beside around ks
Stand b _ around _ = ⊥

-- the sequences that the entry reaches form a tree, in which each label names a sequence around it
pub record IsTree (b : List InstrSeq) (entry : ℕ) : Type 0 where
  pub inside : Trees
  pub stands : Stand b (Tree entry inside Nothing) [] (entry ∷ [])
  pub once : AreDistinct (ids (Tree entry inside Nothing))

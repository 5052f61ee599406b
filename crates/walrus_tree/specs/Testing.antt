-- What the test of a tree keeps: marks of the sequences, and the steps that are left.
use Rattle.std.specs.Prelude.{◌≡◌, ℕ, ◌+◌, Bool, true, false, ◌&&◌, nat_lt, List, [], ◌∷◌, ◌++◌, length, slice_index_or}
use Rattle.walrus_builder.specs.walrus_walks.walrus_instr.declared.instr.Instr.{Instr}
use Rattle.walrus_builder.specs.walrus_walks.walrus_instr.declared.instr.Instr.TheVariants.{Try, TryTable, Br, BrIf, BrTable, BrOnNull, BrOnNonNull, BrOnCast, BrOnCastFail, Rethrow}
use Rattle.walrus_builder.specs.walrus_walks.walrus_instr.declared.instr.LegacyCatch.{LegacyCatch}
use Rattle.walrus_builder.specs.walrus_walks.walrus_instr.declared.instr.LegacyCatch.TheVariants as Legacy
use Rattle.walrus_builder.specs.walrus_walks.walrus_instr.declared.instr.TryTableCatch.{TryTableCatch}
use Rattle.walrus_builder.specs.walrus_walks.walrus_instr.declared.seq.InstrLocId.{InstrLocId}
use Rattle.walrus_builder.specs.walrus_walks.walrus_instr.declared.seq.InstrSeq.{InstrSeq}
use Rattle.walrus_builder.specs.walrus_walks.Tree.{children_in}
use Rattle.walrus_tree.specs.declared.marks.Mark.{Mark}
use Rattle.walrus_tree.specs.declared.marks.Mark.TheVariants.{Fresh, Open, Done}
use Rattle.walrus_tree.specs.declared.steps.Step.{Step}
use Rattle.walrus_tree.specs.declared.steps.Step.TheVariants.{Enter, Leave}
use Rattle.walrus_tree.specs.Trees.{Has, AreDistinct, clause_label, Trees, Nothing, Tree, ids, Stand}

-- ---- labels, by the marks
abbrev pub mark_at : List Mark → ℕ → Mark
mark_at ms k = slice_index_or ms k Fresh

abbrev pub is_open : Mark → Bool
is_open Open = true
is_open Fresh = false
is_open Done = false

-- the sequence is open
abbrev pub open_at : List Mark → ℕ → Bool
open_at ms k = is_open (mark_at ms k)

-- each of these is open
abbrev pub all_open : List Mark → List ℕ → Bool
all_open ms [] = true
all_open ms (k ∷ ks) = open_at ms k && all_open ms ks

-- each label of these clauses names an open one
abbrev pub clauses_open : List Mark → List TryTableCatch → Bool
clauses_open ms [] = true
clauses_open ms (c ∷ cs) = open_at ms (clause_label c) && clauses_open ms cs

abbrev pub is_last : List LegacyCatch → Bool
is_last [] = true
is_last (_ ∷ _) = false

-- a `delegate` is the last part, and its number is below n
abbrev pub delegates : ℕ → List LegacyCatch → Bool
delegates n [] = true
delegates n (Legacy.Catch _ _ ∷ parts) = delegates n parts
delegates n (Legacy.CatchAll _ ∷ parts) = delegates n parts
delegates n (Legacy.Delegate depth ∷ parts) = nat_lt depth n && is_last parts

-- each label of the instruction names one of n open sequences
abbrev pub within : List Mark → ℕ → Instr → Bool
within ms n (TryTable _ catches) = clauses_open ms catches.items
within ms n (Br block) = open_at ms block
within ms n (BrIf block) = open_at ms block
within ms n (BrTable other blocks) = all_open ms blocks.items && open_at ms other
within ms n (BrOnNull block) = open_at ms block
within ms n (BrOnNonNull block) = open_at ms block
within ms n (BrOnCast block _ _) = open_at ms block
within ms n (BrOnCastFail block _ _) = open_at ms block
within ms n (Rethrow depth) = nat_lt depth n
within ms n (Try _ catches) = delegates n catches.items
within ms n _ = true

abbrev pub all_within : List Mark → ℕ → List (Instr × InstrLocId) → Bool
all_within ms n [] = true
all_within ms n (i ∷ is) = within ms n i.0 && all_within ms n is

-- ---- steps, the last of which is taken next
-- steps that enter these sequences
abbrev pub entering : List ℕ → List Step
entering [] = []
entering (k ∷ ks) = Enter k ∷ entering ks

-- the sequences around the end of these steps, innermost first, where `around` are those around the first
abbrev pub opened : List ℕ → List Step → List ℕ
opened around [] = around
opened around (Enter _ ∷ fs) = opened around fs
opened around (Leave k ∷ fs) = opened (k ∷ around) fs

-- what the steps still enter stands as trees of these ids
abbrev pub Left : List InstrSeq → List ℕ → List Step → List ℕ → Type 0
Left b around [] ks = ks ≡ []
Left b around (Leave k ∷ fs) ks = Left b (k ∷ around) fs ks
Left b around (Enter k ∷ fs) ks =
    (inside : Trees) × (more : List ℕ) × (ks ≡ ids (Tree k inside Nothing) ++ more) × Stand b (Tree k inside Nothing) around (k ∷ []) × Left b around fs more

abbrev pub AllFresh : List Mark → List ℕ → Type 0
AllFresh ms [] = Unit {0}
AllFresh ms (k ∷ ks) = (mark_at ms k ≡ Fresh) × AllFresh ms ks

-- what the steps still enter is a part of a tree, none of which was entered
pub record Goes (b : List InstrSeq) (ms : List Mark) (fs : List Step) : Type 0 where
  pub ids : List ℕ
  pub left : Left b [] fs ids
  pub fresh : AllFresh ms ids
  pub distinct : AreDistinct ids

-- the marks say what is around, so many sequences
pub record Marked (ms : List Mark) (depth : ℕ) (around : List ℕ) : Type 0 where
  pub known : (k : ℕ) → mark_at ms k ≡ Open → Has around k
  pub opens : (k : ℕ) → Has around k → mark_at ms k ≡ Open
  pub distinct : AreDistinct around
  pub counted : depth ≡ length around

-- the turns that a sequence may still take
abbrev pub turns_of : InstrSeq → Mark → ℕ
turns_of s Fresh = 2 + length (children_in s.instrs.items)
turns_of s Open = 0
turns_of s Done = 0

-- the turns that are left, but for the steps on the list
abbrev pub work : List InstrSeq → List Mark → ℕ
work [] ms = 0
work (s ∷ b) [] = 0
work (s ∷ b) (m ∷ ms) = turns_of s m + work b ms

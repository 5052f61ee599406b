-- What the test of nesting keeps: marks of the sequences, and steps that are left.
use Rattle.std.specs.Prelude.{◌≡◌, ℕ, ◌+◌, ◌<◌, ◌⊎◌, List, [], ◌∷◌, ◌++◌, Option, Some, None, length, slice_get, slice_index_or}
use Rattle.walrus_instr.specs.declared.instr.Instr.{Instr}
use Rattle.walrus_instr.specs.declared.seq.InstrLocId.{InstrLocId}
use Rattle.walrus_instr.specs.declared.seq.InstrSeq.{InstrSeq}
use Rattle.walrus_walks.specs.declared.nesting.Mark.{Mark}
use Rattle.walrus_walks.specs.declared.nesting.Mark.TheVariants.{Fresh, Open, Done}
use Rattle.walrus_walks.specs.declared.steps.Step.{Step}
use Rattle.walrus_walks.specs.declared.steps.Step.TheVariants.{Enter, Resume}
use Rattle.walrus_walks.specs.Tree.{children, children_in, IsRank}
use Rattle.walrus_walks.specs.Steps.{entering, id_of}

-- steps that enter what these instructions hold, pushed instruction by instruction
abbrev pub pushed : List (Instr × InstrLocId) → List Step
pushed [] = []
pushed (i ∷ is) = entering (children i.0) ++ pushed is

-- the mark of a sequence
abbrev pub mark_at : List Mark → ℕ → Mark
mark_at ms k = slice_index_or ms k Fresh

-- what a sequence holds
abbrev pub held : Option InstrSeq → List ℕ
held (Some s) = children_in s.instrs.items
held None = []

-- some step is of this sequence
abbrev pub Waits : ℕ → List Step → Type 0
Waits k [] = ⊥
Waits k (f ∷ fs) = (id_of f ≡ k) ⊎ Waits k fs

-- the sequence is done, or waits above
abbrev pub Settled : List Mark → List Step → ℕ → Type 0
Settled ms fs k = (mark_at ms k ≡ Done) ⊎ Waits k fs

abbrev pub AllSettled : List Mark → List Step → List ℕ → Type 0
AllSettled ms fs [] = Unit {0}
AllSettled ms fs (k ∷ ks) = Settled ms fs k × AllSettled ms fs ks

-- what a sequence that will be left holds is done, or waits above it
abbrev pub Settles : List InstrSeq → List Mark → List Step → Type 0
Settles b ms [] = Unit {0}
Settles b ms (Enter k ∷ fs) = Settles b ms fs
Settles b ms (Resume k _ ∷ fs) = AllSettled ms fs (held (slice_get b k)) × Settles b ms fs

-- the sequence will be left
abbrev pub Leaves : ℕ → List Step → Type 0
Leaves k [] = ⊥
Leaves k (Enter _ ∷ fs) = Leaves k fs
Leaves k (Resume j _ ∷ fs) = (j ≡ k) ⊎ Leaves k fs

-- what will be left is known
abbrev pub IsKnown : List InstrSeq → Step → Type 0
IsKnown b (Enter _) = Unit {0}
IsKnown b (Resume k _) = k < length b

abbrev pub AllKnown : List InstrSeq → List Step → Type 0
AllKnown b [] = Unit {0}
AllKnown b (f ∷ fs) = IsKnown b f × AllKnown b fs

-- ranks fall up the list: each step's is below n, and below that of each sequence that is left after it
abbrev pub Below : (ℕ → ℕ) → ℕ → List Step → Type 0
Below rank n [] = Unit {0}
Below rank n (Enter k ∷ fs) = (0 < rank k) × (rank k < n) × Below rank n fs
Below rank n (Resume k _ ∷ fs) = (0 < rank k) × (rank k < n) × Below rank (rank k) fs

-- what is done has a rank below the top
pub record Ranked (b : List InstrSeq) (ms : List Mark) : Type 0 where
  pub rank : ℕ → ℕ
  pub top : ℕ
  pub is_rank : IsRank b rank
  pub below : (k : ℕ) → rank k < top
  pub done : (k : ℕ) → mark_at ms k ≡ Done → 0 < rank k

-- the state of the test
pub record Checks (b : List InstrSeq) (start : ℕ) (ms : List Mark) (fs : List Step) : Type 0 where
  pub ranked : Ranked b ms
  pub settles : Settles b ms fs
  pub opened : (k : ℕ) → mark_at ms k ≡ Open → Leaves k fs
  pub known : AllKnown b fs
  pub falls : (rank : ℕ → ℕ) → IsRank b rank → 0 < rank start → Below rank (rank start + 1) fs
  pub meant : Settled ms fs start

-- the turns that a sequence may still take
abbrev pub turns_of : InstrSeq → Mark → ℕ
turns_of s Fresh = 2 + length (children_in s.instrs.items)
turns_of s Open = 0
turns_of s Done = 0

-- the turns that are left, but for the steps on the list
abbrev pub work : List InstrSeq → List Mark → ℕ
work [] ms = 0
work (s ∷ b) [] = 0
work (s ∷ b) (m ∷ ms) = turns_of s m + work b ms

-- What a walk still has to tell, by the steps on its list.
use Rattle.std.specs.Prelude.{◌≡◌, ℕ, ◌<◌, List, [], ◌∷◌, ◌++◌, Option, Some, None, length, drop, slice_get}
use Rattle.std.specs.List.{FoldsTo}
use Rattle.walrus_instr.specs.declared.seq.InstrSeq.{InstrSeq}
use Rattle.walrus_walks.specs.declared.steps.Step.{Step}
use Rattle.walrus_walks.specs.declared.steps.Step.TheVariants.{Enter, Resume}
use Rattle.walrus_walks.specs.Tree.{IsNested}
use Rattle.walrus_walks.specs.Events.{Event, EndOf}
use Rattle.walrus_walks.specs.Walk.{of_items, walk}

-- steps that enter these sequences, the first of them next: the list's last step is taken first
abbrev pub entering : List ℕ → List Step
entering [] = []
entering (k ∷ ks) = entering ks ++ Enter k ∷ []

-- the sequence of a step
abbrev pub id_of : Step → ℕ
id_of (Enter k) = k
id_of (Resume k _) = k

-- what is left of a sequence from an instruction on
abbrev pub rest_of : List InstrSeq → Option InstrSeq → ℕ → List Event
rest_of b (Some s) i = of_items (walk b) (drop i s.instrs.items) ++ EndOf s ∷ []
rest_of b None i = []

-- what a step tells, and the steps that it makes
abbrev pub ahead : List InstrSeq → Step → List Event
ahead b (Enter k) = walk b k
ahead b (Resume k i) = rest_of b (slice_get b k) i

-- what is left to tell
abbrev pub left : List InstrSeq → List Step → List Event
left b [] = []
left b (f ∷ fs) = left b fs ++ ahead b f

-- the steps are in nested sequences
abbrev pub AreSteps : List InstrSeq → List Step → Type 0
AreSteps b [] = Unit {0}
AreSteps b (f ∷ fs) = IsNested b (id_of f) × AreSteps b fs

-- some of what was left has been told
pub record Told {V : Type 0} (step : V → Event → V → Type 0) (v : V) (before : List Event) (w : V) (after : List Event) : Type 0 where
  pub events : List Event
  pub some : 0 < length events
  pub splits : before ≡ events ++ after
  pub told : FoldsTo step v events w

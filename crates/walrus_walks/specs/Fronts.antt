-- Steps over a part of a list, from its front.
use Rattle.std.specs.Prelude.{◌≡◌, List, ◌++◌}
use Rattle.std.specs.List.{FoldsTo}

-- the steps over a part from the front of the list lead from p to q
pub record FoldsFront {P A : Type 0} (R : P → A → P → Type 0) (p : P) (all : List A) (q : P) : Type 0 where
  pub part : List A
  pub rest : List A
  pub splits : all ≡ part ++ rest
  pub folds : FoldsTo R p part q

-- Leastness.
use Rattle.std.proofs.Common.{◌≡◌, Bool, true}
use Rattle.walrus_roots.specs.declared.item.Item.{Item}
use Rattle.walrus_marks.specs.Chains.{Chain, root, refers}
use Rattle.walrus_references.specs.Kept.{KeptIsLeast}
use Rattle.walrus_references.specs.References.{Refers}
use Rattle.walrus_references.specs.Roots.{Root}

kept_in : (R : Item → Type 0) (N : Item → Item → Type 0) (part : Item → Bool) → ((x : Item) → R x → part x ≡ true) → ((x y : Item) → part x ≡ true → N x y → part y ≡ true) → (x : Item) → Chain R N x → part x ≡ true
kept_in R N part rooted closed x (root r) = rooted x r
kept_in R N part rooted closed y (refers {x} k n) = closed x y (kept_in R N part rooted closed x k) n

pub least : KeptIsLeast
least m pushed part rooted closed x k = kept_in (Root m pushed) (Refers m) part rooted closed x k

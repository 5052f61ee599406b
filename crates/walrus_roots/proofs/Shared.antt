-- None of what is pushed is a local.
use Rattle.std.proofs.Common.{◌≡◌, ◌++◌, ◌∷◌, [], inl, inr, List, sym, subst}
use Rattle.std.proofs.lemmas.List.Elements.{Contains-push_cases}
use Rattle.walrus_roots.specs.declared.item.Item.{Item}
use Rattle.walrus_roots.specs.Items.{IsShared, PushesShared}

pub shared_same : (xs ys : List Item) → ys ≡ xs → PushesShared xs → PushesShared ys
shared_same xs ys e shared = subst PushesShared (sym e) shared

pub shared_more : (xs : List Item) (y : Item) → PushesShared xs → IsShared y → PushesShared (xs ++ y ∷ [])
shared_more xs y shared one = λ x there. elim (Contains-push_cases xs y x there) as (λ _. IsShared x) [
  | inl old ↦ shared x old
  | inr e ↦ subst IsShared e one
]

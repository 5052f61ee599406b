-- Lists that are seen as they are.
use Rattle.std.specs.Prelude.{◌≡◌, List, [], ◌∷◌, map, refl}
use Rattle.std.proofs.Common.{ap}

pub same_items : {A : Type 0} (xs : List A) → map (λ (x : A). x) xs ≡ xs
same_items [] = refl
same_items {A} (x ∷ xs) = ap (λ (l : List A). x ∷ l) (same_items xs)

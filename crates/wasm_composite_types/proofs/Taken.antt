-- Calls of an iterator, and one call more.
use Rattle.std.proofs.Common.{List, [], ◌∷◌, ◌++◌, Option, Some, refl, subst, sym}
use Rattle.std.specs.Iterator.{Yields}

pub yields_more : {S A : Type 0} (steps : S → Option A → S → Type 0) (s : S) (xs : List A) (t : S) (x : A) (u : S) → Yields steps s xs t → steps t (Some x) u → Yields steps s (xs ++ x ∷ []) u
yields_more steps s [] t x u e h = (u, subst (λ v. steps v (Some x) u) (sym e) h, refl)
yields_more steps s (y ∷ xs) t x u (j, first, rest) h = (j, first, yields_more steps j xs t x u rest h)

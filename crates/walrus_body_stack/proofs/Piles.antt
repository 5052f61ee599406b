-- Lists with their last item first.
use Rattle.std.proofs.Common.{ℕ, zero, suc, ◌-◌, ◌<◌, ◌≤◌, ◌≡◌, List, [], ◌∷◌, ◌++◌, reverse, length, get_or, Some, None, refl, sym, ap, arith, ◌∙◌}
use Rattle.std.specs.Prelude.{slice_get}
use Rattle.std.proofs.lemmas.List.{get_or-reverse, length-reverse, reverse-append}
use Rattle.std.proofs.lemmas.Option.{slice_get-get_or}

-- one more
pub turned : {A : Type 0} (xs : List A) (x : A) → reverse (xs ++ x ∷ []) ≡ x ∷ reverse xs
turned xs x = reverse-append xs (x ∷ [])

pub turned_so : {A : Type 0} (xs ys : List A) (x : A) → ys ≡ xs ++ x ∷ [] → reverse ys ≡ x ∷ reverse xs
turned_so xs ys x e = ap reverse e ∙ turned xs x

-- the one below n others
pub at_depth : {A : Type 0} (xs : List A) (n : ℕ) (x : A) → n < length xs → x ≡ get_or xs (length xs - 1 - n) x → slice_get (reverse xs) n ≡ Some x
at_depth xs n x l e =
    slice_get-get_or (reverse xs) n x (omega (arith, l, length-reverse xs)) ∙ ap Some (get_or-reverse xs n x l ∙ sym e)

past_in : {A : Type 0} (xs : List A) (n : ℕ) → length xs ≤ n → slice_get xs n ≡ None
past_in [] n l = refl
past_in (x ∷ xs) zero l = absurd (omega (arith, l))
past_in (x ∷ xs) (suc n) l = past_in xs n (omega (arith, l))

pub past_depth : {A : Type 0} (xs : List A) (n : ℕ) → length xs ≤ n → slice_get (reverse xs) n ≡ None
past_depth xs n l = past_in (reverse xs) n (omega (arith, l, length-reverse xs))

-- Lists that have the same names.
use Rattle.std.proofs.Common.{ℕ, ◌≡◌, refl, List, [], ◌∷◌, ◌++◌, Option, Some, sym, ap, subst, ◌∙◌, append-nil}
use Rattle.std.specs.Prelude.{Contains, slice_get, ◌⊎◌, get_or}
use Rattle.std.specs.Bool.{OnTrue}
use Rattle.std.specs.Option.{unwrap_or}
use Rattle.std.proofs.Common.{inl, inr}
use Rattle.std.proofs.lemmas.List.Elements.{Contains-append_cases, Contains-append_left, Contains-append_right, Contains-get_or, Contains-push_cases}
use Rattle.std.proofs.lemmas.Option.{slice_get_within, unwrap_or-slice_get}
use Rattle.walrus_body_names.specs.Names.{HaveSame, has_any}

pub at_is : (xs : List ℕ) (p x : ℕ) → slice_get xs p ≡ Some x → Contains xs x
at_is xs p x is =
    let same : get_or xs p x ≡ x = sym (unwrap_or-slice_get xs p x) ∙ ap (λ (o : Option ℕ). unwrap_or o x) is in
    subst (Contains xs) same (Contains-get_or xs p x (slice_get_within xs p x is))

pub same_lists : (xs ys : List ℕ) → xs ≡ ys → HaveSame xs ys
same_lists xs ys e = λ k. ((λ c. subst (λ (z : List ℕ). Contains z k) e c), (λ c. subst (λ (z : List ℕ). Contains z k) (sym e) c))

-- one that is there adds nothing
pub there : (xs : List ℕ) (x : ℕ) → Contains xs x → HaveSame xs (xs ++ x ∷ [])
there xs x h = λ k. ((λ c. Contains-append_left xs (x ∷ []) k c), (λ c. either k (Contains-push_cases xs x k c)))
  where
    either : (k : ℕ) → Contains xs k ⊎ (x ≡ k) → Contains xs k
    either k (inl c) = c
    either k (inr e) = subst (Contains xs) e h

pub same_on : (xs ys zs : List ℕ) → HaveSame xs ys → HaveSame (xs ++ zs) (ys ++ zs)
same_on xs ys zs same = λ k. ((λ c. one k (Contains-append_cases xs zs k c)), (λ c. other k (Contains-append_cases ys zs k c)))
  where
    one : (k : ℕ) → Contains xs k ⊎ Contains zs k → Contains (ys ++ zs) k
    one k (inl c) = Contains-append_left ys zs k ((same k).0 c)
    one k (inr c) = Contains-append_right ys zs k c

    other : (k : ℕ) → Contains ys k ⊎ Contains zs k → Contains (xs ++ zs) k
    other k (inl c) = Contains-append_left xs zs k ((same k).1 c)
    other k (inr c) = Contains-append_right xs zs k c

pub same_then : (xs ys zs : List ℕ) → HaveSame xs ys → HaveSame ys zs → HaveSame xs zs
same_then xs ys zs f g = λ k. ((λ c. (g k).0 ((f k).0 c)), (λ c. (f k).1 ((g k).1 c)))

-- what an instruction names was gathered, if it names something
pub told_none : (old names : List ℕ) → [] ≡ names → HaveSame old (old ++ names)
told_none old names is = same_lists old (old ++ names) (sym (append-nil old) ∙ ap (λ (z : List ℕ). old ++ z) is)

-- the local that an instruction names is there, if it names one
pub told_if : (old names : List ℕ) (id : ℕ) → OnTrue (has_any names) (names ≡ id ∷ []) → Contains old id → HaveSame old (old ++ names)
told_if old [] id h c = told_none old [] refl
told_if old (x ∷ xs) id h c = subst (λ (z : List ℕ). HaveSame old (old ++ z)) (sym h) (there old id c)

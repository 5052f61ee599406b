-- Lemmas: what is so of each item of a list, and so of none that it isn't.
use Rattle.std.specs.Prelude.{zero, suc, ◌≤◌, Bool, not, List, [], ◌∷◌, length, map, filter, Option, Some, None}
use Rattle.std.specs.List.{AllByRecursion, Any}
use Rattle.std.proofs.Common.{sym, subst, arith, refl}
use Rattle.std.proofs.lemmas.List.Filters.{length-filter_both}
use Rattle.wasm_spelled_modules.specs.wasm_module_rules.Linked.{Each}

-- it is so of none
abbrev pub NoneIs : {X : Type 0} → (X → Type 0) → List X → Type 0
NoneIs P xs = AllByRecursion (λ x. P x → ⊥) xs

pub not_any : {X : Type 0} (P : X → Type 0) (xs : List X) → NoneIs P xs → Any P xs → ⊥
not_any P [] h a = absurd (omega (arith, a.2))
not_any P (x ∷ xs) h (zero, y, lt, e, p) = h.0 (subst P (sym e) p)
not_any P (x ∷ xs) h (suc i, y, lt, e, p) = not_any P xs h.1 (i, y, omega (arith, lt), e, p)

-- of all slots, as they were read
pub each_none : {A X : Type 0} (P : A → Type 0) (see : X → A) (Lacks : X → Type 0) → ((x : X) → P (see x) → Lacks x → ⊥) → (xs : List X) → Each P (map (λ x. Some (see x)) xs) → NoneIs Lacks xs
each_none P see Lacks f [] h = tt
each_none P see Lacks f (x ∷ xs) h = (f x h.0, each_none P see Lacks f xs h.1)

pub both : {A : Type 0} (P Q : A → Type 0) (xs : List (Option A)) → Each P xs → Each Q xs → Each (λ x. P x × Q x) xs
both P Q [] h k = tt
both P Q (None ∷ xs) h k = both P Q xs h k
both P Q (Some x ∷ xs) h k = ((h.0, k.0), both P Q xs h.1 k.1)

pub filter_shorter : {A : Type 0} (p : A → Bool) (xs : List A) → length (filter p xs) ≤ length xs
filter_shorter p xs = omega (arith, length-filter_both p (λ x. not (p x)) (λ x. refl) xs)

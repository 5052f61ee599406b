-- Numbers of locals: what was said last, and what was said before.
use Rattle.std.proofs.Common.{◌≡◌, ◌∙◌, ◌==◌, ◌&&◌, ◌<◌, ◌≤◌, Bool, true, false, ℕ, List, ◌++◌, length, take, get_or, set, replicate, Option, Some, None, if◌then◌else◌, refl, ap, sym, inl, inr}
use Rattle.std.proofs.lemmas.Bool.{cases_Bool, eqb-true, eqb-false, ne_eqb, eq-eqb, and_parts}
use Rattle.std.proofs.lemmas.List.{get_or-set_same, get_or-set_other}
use Rattle.std.specs.Ordering.{is_eq}
use Rattle.walrus_index_maps.specs.Maps.{with_local}
use Rattle.walrus_index_maps.specs.Views.{key_cmp, said_or}
use Rattle.walrus_index_maps.specs.declared.locals.Said.{Said}
use Rattle.walrus_index_maps.proofs.MapLemmas.{agree, grown, key_is}

abbrev pub sayings : (ℕ → Option Said) → (ℕ × ℕ → Option ℕ) → ℕ → ℕ → Option ℕ
sayings find earlier f local = said_or (find local) f (earlier (f, local))

-- what is behind what was said last by this function is not looked at
shadowed : (s : Option Said) (f function number : ℕ) (x y : Option ℕ) → s ≡ Some (record { function = function; number = number }) → f ≡ function → said_or s f x ≡ said_or s f y
shadowed s f function number x y e same = rw (e, eq-eqb function f (sym same)) refl

pub said_kept : (find : ℕ → Option Said) (at function number : ℕ) (old new : ℕ × ℕ → Option ℕ)
    → find at ≡ Some (record { function = function; number = number })
    → ((q : ℕ × ℕ) → new q ≡ (if is_eq (key_cmp (function, at) q) then Some number else old q))
    → sayings find new ≡ sayings find old
said_kept find at function number old new found h = agree _ _ (λ f. agree _ _ (λ local. each f local))
  where
    each : (f local : ℕ) → said_or (find local) f (new (f, local)) ≡ said_or (find local) f (old (f, local))
    each f local = elim (cases_Bool (f == function && local == at)) [
      | inl same ↦
          let both = and_parts (f == function) (local == at) same in
          shadowed (find local) f function number _ _ (ap find (eqb-true local at both.1) ∙ found) (eqb-true f function both.0)
      | inr other ↦ ap (said_or (find local) f) (h (f, local) ∙ rw (key_is function at f local, other) refl)
    ]

pub said_grown : (xs ys : List (Option Said)) (n m : ℕ) (earlier : ℕ × ℕ → Option ℕ) → length xs ≤ n → ys ≡ take n xs ++ replicate m None
    → sayings (λ local. get_or ys local None) earlier ≡ sayings (λ local. get_or xs local None) earlier
said_grown xs ys n m earlier l e = agree _ _ (λ f. agree _ _ (λ local. ap (λ (s : Option Said). said_or s f (earlier (f, local))) (grown xs ys n m local l e)))

pub said_written : (xs : List (Option Said)) (at function number : ℕ) (earlier : ℕ × ℕ → Option ℕ) → at < length xs
    → ((other : ℕ) → (other ≡ function → ⊥) → said_or (get_or xs at None) other (earlier (other, at)) ≡ earlier (other, at))
    → sayings (λ local. get_or (set xs at (Some (record { function = function; number = number }))) local None) earlier
    ≡ with_local function at number (sayings (λ local. get_or xs local None) earlier)
said_written xs at function number earlier l kept = agree _ _ (λ f. agree _ _ (λ local. each f local))
  where
    now : Option Said
    now = Some (record { function = function; number = number })

    -- of the local that was written
    here : (f : ℕ) → said_or now f (earlier (f, at)) ≡ (if f == function && true then Some number else said_or (get_or xs at None) f (earlier (f, at)))
    here f = elim (cases_Bool (f == function)) [
      | inl same ↦ rw (same, eq-eqb function f (sym (eqb-true f function same))) refl
      | inr other ↦ rw (other, ne_eqb function f (λ e. eqb-false f function other (sym e))) (sym (kept f (eqb-false f function other)))
    ]

    never : (b : Bool) → (b && false) ≡ false
    never true = refl
    never false = refl

    each : (f local : ℕ) → said_or (get_or (set xs at now) local None) f (earlier (f, local)) ≡ with_local function at number (sayings (λ other. get_or xs other None) earlier) f local
    each f local = elim (cases_Bool (local == at)) [
      | inl same ↦ rw (same, eqb-true local at same, get_or-set_same xs at now None l) (here f)
      | inr other ↦ rw (other, get_or-set_other xs at local now None (eqb-false local at other), never (f == function)) refl
    ]

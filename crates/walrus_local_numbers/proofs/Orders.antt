-- The order of locals: by type, then by id.
use Rattle.std.proofs.Common.{ℕ, ◌≡◌, Bool, true, List, [], ◌∷◌, Contains, Ordering, Less, Equal, Greater, refl, sym, ap, subst, ◌∙◌}
use Rattle.std.specs.Ordering.{is_eq, is_lt, eq_by_cmp, nat_cmp, ordering_then}
use Rattle.std.specs.Cmp.{IsTotalOrder, eq_by_cmp_equiv, nat_cmp_total, on_total, then_total, unsigned_ties}
use Rattle.std.specs.List.{dedup}
use Rattle.std.specs.List.Retain.{DiffersFromLast, IsFiltered}
use Rattle.std.specs.List.Sorted.{IsPermutation, IsSorted, IsStrictlySortedBy}
use Rattle.std.proofs.lemmas.Bool.{eqb-true, false≢true}
use Rattle.std.proofs.lemmas.List.Filters.{dedup_is}
use Rattle.std.proofs.lemmas.List.Kept.{Contains-dedup, Contains-from_dedup, IsStrictlySortedBy-dedup}
use Rattle.std.proofs.lemmas.List.Sorted.{Contains-permutation, IsPermutation-sym}
use Rattle.walrus_forms.specs.declared.value.ValType.{ValType}
use Rattle.walrus_forms.specs.declared.value.ValType.TheVariants.{I32}
use Rattle.walrus_forms.specs.contracts.value.ValTypePartialEq.TheImpl.{ghosts as value_eq}
use Rattle.walrus_forms.specs.contracts.value.ValTypeOrd.TheImpl.{ghosts as value_ord}
use Rattle.walrus_forms.specs.contracts.value.ValTypeOrd.TheImpl.Laws as value_laws
use Rattle.walrus_forms.specs.Forms.{Form, FunctionForm}
use Rattle.walrus_forms.specs.Kinds.{Kind, function_kind}
use Rattle.walrus_forms.specs.Order.{kind_cmp}
use Rattle.walrus_forms.specs.ValueOrder.{value_cmp}
use Rattle.walrus_forms.proofs.PlaceLemmas.{value-places}
use Rattle.walrus_type_index.proofs.Tied.{tied}
use Rattle.wasm_normal_form.specs.Locals.{Key, is_equal, key_cmp}
use Rattle.walrus_local_numbers.specs.Declared.{AreKeys}

-- ---- types

value_cmp_is : value_ord.cmp ≡ value_cmp
value_cmp_is = λ i a b. value-places a b i

abbrev first_param : Form → ValType
first_param (FunctionForm (p ∷ ps) rs) = p
first_param _ = I32

kinds_tie : (a b : ValType) → value_ord.cmp a b ≡ Equal → kind_cmp (function_kind (a ∷ []) []) (function_kind (b ∷ []) []) ≡ Equal
kinds_tie a b e = rw e refl

pub types_tie : (a b : ValType) → value_cmp a b ≡ Equal → a ≡ b
types_tie a b e = ap (λ (k : Kind). first_param k.form) (tied (function_kind (a ∷ []) []) (function_kind (b ∷ []) []) (kinds_tie a b (value-places a b ∙ e)))

pub equal_is : (o : Ordering) → is_equal o ≡ is_eq o
equal_is Less = refl
equal_is Equal = refl
equal_is Greater = refl

pub equal_from : (o : Ordering) → is_eq o ≡ true → o ≡ Equal
equal_from Less e = absurd (false≢true e)
equal_from Equal e = refl
equal_from Greater e = absurd (false≢true e)

pub tests_are : (a b : ValType) → value_eq.eq a b ≡ is_equal (value_cmp a b)
tests_are a b = value_laws.matches_eq-law a b ∙ ap is_eq (value-places a b) ∙ sym (equal_is (value_cmp a b))

-- ---- keys

pub key_total : IsTotalOrder key_cmp
key_total =
    let types : IsTotalOrder value_cmp = subst (λ (R : ValType → ValType → Ordering). IsTotalOrder R) value_cmp_is value_laws.total-law in
    then_total (on_total (λ (k : Key). k.0) types) (on_total (λ (k : Key). k.1) nat_cmp_total)

then_equal : (a b : Ordering) → ordering_then a b ≡ Equal → (a ≡ Equal) × (b ≡ Equal)
then_equal Less b e = absurd (false≢true (ap is_eq e))
then_equal Equal b e = (refl, e)
then_equal Greater b e = absurd (false≢true (ap is_eq e))

numbers_tie : (m n : ℕ) → nat_cmp m n ≡ Equal → m ≡ n
numbers_tie m n e = eqb-true m n (unsigned_ties m n ∙ ap is_eq e)

pub keys_tie : (a b : Key) → key_cmp a b ≡ Equal → a ≡ b
keys_tie a b e =
    let parts = then_equal (value_cmp a.0 b.0) (nat_cmp a.1 b.1) e in
    λ i. (types_tie a.0 b.0 parts.0 i, numbers_tie a.1 b.1 parts.1 i)

pub numbers_of_tied : (a b : Key) → key_cmp a b ≡ Equal → a.1 ≡ b.1
numbers_of_tied a b e = ap (λ (k : Key). k.1) (keys_tie a b e)

-- a sorted list without repeats has each of what was sorted once
module _ (E : Key → Key → Bool) (C : Key → Key → Ordering) (equal : (a b : Key) → E a b ≡ is_eq (key_cmp a b)) (ordered : (a b : Key) → C a b ≡ key_cmp a b) where
  pub is_keys : (found sorted keys : List Key) → IsPermutation found sorted → IsSorted C sorted → IsFiltered (DiffersFromLast E) [] sorted keys → AreKeys found keys
  is_keys found sorted keys moved up filtered =
      let tests : E ≡ eq_by_cmp key_cmp = λ i a b. equal a b i in
      let is : keys ≡ dedup (eq_by_cmp key_cmp) sorted = dedup_is E sorted keys filtered ∙ ap (λ (test : Key → Key → Bool). dedup test sorted) tests in
      let rises : IsSorted key_cmp sorted = λ k d from upto. sym (ap is_lt (ordered _ _)) ∙ up k d from upto in
      record {
        rising = subst (IsStrictlySortedBy key_cmp) (sym is) (IsStrictlySortedBy-dedup key_total (λ x y. refl) sorted rises);
        members = λ k. (
          (λ c. Contains-permutation sorted found k (IsPermutation-sym found sorted moved) (Contains-from_dedup (eq_by_cmp key_cmp) sorted k (subst (λ (z : List Key). Contains z k) is c))),
          (λ c. subst (λ (z : List Key). Contains z k) (sym is) (Contains-dedup (eq_by_cmp_equiv key_total) (λ x y e. keys_tie x y (equal_from (key_cmp x y) e)) sorted k (Contains-permutation found sorted k moved c))),
        );
      }

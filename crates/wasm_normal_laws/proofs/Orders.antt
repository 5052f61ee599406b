-- Keys of locals in order, and those that are numbered in their place.
use Rattle.std.proofs.Common.{ℕ, suc, ◌<◌, ◌≡◌, Bool, true, false, List, [], ◌∷◌, map, Ordering, Less, Equal, Greater, refl, sym, ap, subst, ◌∙◌, arith}
use Rattle.std.specs.Prelude.{if◌then◌else◌}
use Rattle.std.specs.Ordering.{MatchOrdering, nat_cmp, ordering_reverse, ordering_then}
use Rattle.std.specs.Cmp.{IsTotalOrder, nat_cmp_total, on_total, ranks, then_total}
use Rattle.std.proofs.lemmas.Bool.{false≢true}
use Rattle.walrus_forms.specs.declared.value.ValType.{ValType}
use Rattle.walrus_forms.specs.contracts.value.ValTypeOrd.TheImpl.{ghosts as value_ord}
use Rattle.walrus_forms.specs.contracts.value.ValTypeOrd.TheImpl.Laws as value_laws
use Rattle.walrus_forms.specs.ValueOrder.{value_cmp}
use Rattle.walrus_forms.proofs.PlaceLemmas.{value-places}
use Rattle.wasm_normal_form.specs.Locals.{Key, in_order, insert_key, is_less, key_cmp, numbered}

-- the types of keys
abbrev pub types : List Key → List ValType
types ks = map (λ (k : Key). k.0) ks

value_cmp_is : value_ord.cmp ≡ value_cmp
value_cmp_is = λ i a b. value-places a b i

key_total : IsTotalOrder key_cmp
key_total =
    let tys : IsTotalOrder value_cmp = subst (λ (R : ValType → ValType → Ordering). IsTotalOrder R) value_cmp_is value_laws.total-law in
    then_total (on_total (λ (k : Key). k.0) tys) (on_total (λ (k : Key). k.1) nat_cmp_total)

turned : (o : Ordering) → is_less o ≡ true → is_less (ordering_reverse o) ≡ false
turned Less e = refl
turned Equal e = absurd (false≢true e)
turned Greater e = absurd (false≢true e)

less_turned : (a b : Key) → is_less (key_cmp a b) ≡ true → is_less (key_cmp b a) ≡ false
less_turned a b e = ap is_less (key_total.antisymm b a) ∙ turned (key_cmp a b) e

-- ---- lists in order

-- the first of them isn't below this one
abbrev After : Key → List Key → Type 0
After k [] = Unit {0}
After k (j ∷ js) = is_less (key_cmp j k) ≡ false

-- each one isn't below the one before it
abbrev pub InOrder : List Key → Type 0
InOrder [] = Unit {0}
InOrder (k ∷ ks) = After k ks × InOrder ks

after_insert : (j k : Key) (ks : List Key) → is_less (key_cmp k j) ≡ false → After j ks → After j (insert_key k ks)
after_insert j k [] first h = first
after_insert j k (x ∷ xs) first h = by (is_less (key_cmp x k))
  where
    by : (b : Bool) → After j (if b then x ∷ insert_key k xs else k ∷ (x ∷ xs))
    by true = h
    by false = first

insert_ordered : (k : Key) (ks : List Key) → InOrder ks → InOrder (insert_key k ks)
insert_ordered k [] h = (tt, tt)
insert_ordered k (j ∷ js) h = by (is_less (key_cmp j k)) refl (insert_ordered k js h.1)
  where
    by : (b : Bool) → is_less (key_cmp j k) ≡ b → InOrder (insert_key k js) → InOrder (if b then j ∷ insert_key k js else k ∷ (j ∷ js))
    by true e rest = (after_insert j k js (less_turned j k e) h.0, rest)
    by false e rest = (e, h)

pub order_ordered : (ks : List Key) → InOrder (in_order ks)
order_ordered [] = tt
order_ordered (k ∷ ks) = insert_ordered k (in_order ks) (order_ordered ks)

insert_first : (k : Key) (ks : List Key) → After k ks → insert_key k ks ≡ k ∷ ks
insert_first k [] h = refl
insert_first k (j ∷ js) h = rw h refl

-- what is in order stays so
pub order_same : (ks : List Key) → InOrder ks → in_order ks ≡ ks
order_same [] h = refl
order_same (k ∷ ks) h = ap (insert_key k) (order_same ks h.1) ∙ insert_first k ks h.0

-- ---- the same types, numbered in their place

not_less : (o : Ordering) (n : ℕ) → MatchOrdering o (suc n < n) (suc n ≡ n) (n < suc n) → is_less o ≡ false
not_less Less n h = absurd (omega (arith, h))
not_less Equal n h = refl
not_less Greater n h = refl

by_type : (o before : Ordering) (n : ℕ) → is_less (ordering_then o before) ≡ false → is_less (ordering_then o (nat_cmp (suc n) n)) ≡ false
by_type Less before n h = absurd (false≢true (sym h))
by_type Equal before n h = not_less (nat_cmp (suc n) n) n (ranks (suc n) n)
by_type Greater before n h = refl

after_numbered : (n : ℕ) (k : Key) (ks : List Key) → After k ks → After (k.0, n) (numbered (suc n) (types ks))
after_numbered n k [] h = tt
after_numbered n k (j ∷ js) h = by_type (value_cmp j.0 k.0) (nat_cmp j.1 k.1) n h

pub numbered_ordered : (n : ℕ) (ks : List Key) → InOrder ks → InOrder (numbered n (types ks))
numbered_ordered n [] h = tt
numbered_ordered n (k ∷ ks) h = (after_numbered n k ks h.0, numbered_ordered (suc n) ks h.1)

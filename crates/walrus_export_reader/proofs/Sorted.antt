-- Lemmas: keys that are sorted tell which names stand twice.
use Rattle.std.specs.Prelude.{ℕ, zero, suc, ◌+◌, ◌-◌, ◌<◌, ◌≤◌, ◌≡◌, ◌≢◌, ◌==◌, ◌&&◌, nat_eq, Bool, true, false, List, [], length, map, All, Option, Some, slice_get, slice_index_or, refl}
use Rattle.std.specs.declared.cmp.Ordering.{Ordering}
use Rattle.std.specs.declared.cmp.Ordering.TheVariants.{Less, Equal, Greater}
use Rattle.std.specs.Cmp.Lexicographic.{slice_cmp}
use Rattle.std.specs.Ordering.{ordering_then, ordering_reverse, nat_cmp, is_lt}
use Rattle.std.specs.Cmp.{IsStrictWeakOrder}
use Rattle.std.specs.Str.{bytes_eq}
use Rattle.std.specs.List.{range_with_len, AllPairs, Contains}
use Rattle.std.specs.List.Sorted.{IsSortedBy}
use Rattle.std.proofs.Common.{IsPermutation, ap, sym, ◌∙◌, subst, arith, inl, inr, ◌⊎◌}
use Rattle.std.proofs.Math.ListN.{length-map}
use Rattle.std.proofs.lemmas.Bool.{false≢true, cases_lt, cases_Bool, eqb-true, eq-eqb, lt-ltb, le-ltb, le-leb, lt-leb}
use Rattle.std.proofs.lemmas.Bool.Decides.{nat_tests, Decides-eqb}
use Rattle.std.proofs.lemmas.Cmp.{on_total, then_total, nat_cmp_total, nat_list_cmp_total, nat_eq_equiv, tied_itself}
use Rattle.std.proofs.lemmas.List.{get_or-map}
use Rattle.std.proofs.lemmas.List.FromFn.{length-range_with_len, get_or-range_with_len}
use Rattle.std.proofs.lemmas.List.Sorted.{ranks_by, sorted_far, IsPermutation-map, All-permutation, Contains-permutation}
use Rattle.std.proofs.lemmas.Map.Keys.{IsDistinct-IsPermutation}
use Rattle.std.proofs.lemmas.Map.Made.{AllPairs-from_IsDistinct, IsDistinct-from_AllPairs}
use Rattle.std.proofs.lemmas.Map.Text.{is_eq-slice_cmp}
use Rattle.std.proofs.lemmas.Option.{get_or_from_slice_get, slice_get-get_or, slice_get_within, slice_get_cases}
use Rattle.std.proofs.lemmas.Slice.Eq.{bytes_eq-Decides}
use Rattle.walrus_export_reader.specs.declared.repeats.Key.{Key}
use Rattle.walrus_export_reader.specs.Keys.{IsKey, mixed_of, is_same, less_of}
use Rattle.walrus_known_sections.specs.declared.items.Export.{Export}
use Rattle.walrus_export_reader.specs.Repeats.{names_of, name_at, RepeatsAt, IsFirstRepeat}

-- ---- the order of keys

abbrev pub key_cmp : Key → Key → Ordering
key_cmp a b = ordering_then (nat_cmp a.mixed b.mixed) (ordering_then (slice_cmp nat_cmp a.name.now b.name.now) (nat_cmp a.number b.number))

abbrev pub key_lt : Key → Key → Bool
key_lt a b = is_lt (key_cmp a b)

key_order : IsStrictWeakOrder key_lt
key_order = ranks_by (then_total (on_total (λ (k : Key). k.mixed) nat_cmp_total) (then_total (on_total (λ (k : Key). k.name.now) nat_list_cmp_total) (on_total (λ (k : Key). k.number) nat_cmp_total))) (λ (k : Key). k)

not_more : (a b : ℕ) (o : Ordering) → is_lt (ordering_then (nat_cmp a b) o) ≡ false → b ≤ a
not_more a b o h = grind (arith, nat_tests)

not_less : (a b : ℕ) → is_lt (nat_cmp a b) ≡ false → b ≤ a
not_less a b h = grind (arith, nat_tests)

when_equal : (a b : ℕ) (o : Ordering) → a ≡ b → is_lt (ordering_then (nat_cmp a b) o) ≡ false → is_lt o ≡ false
when_equal a b o e h =
    let same : nat_cmp a b ≡ Equal = subst (λ (c : ℕ). nat_cmp a c ≡ Equal) e (tied_itself nat_cmp_total a) in
    sym (ap (λ (r : Ordering). is_lt (ordering_then r o)) same) ∙ h

first_of_two : (o p : Ordering) → is_lt (ordering_then o p) ≡ false → is_lt o ≡ false
first_of_two Less p h = absurd (false≢true (sym h))
first_of_two Equal p h = refl
first_of_two Greater p h = refl

-- a key isn't before another of the same name
tied : (a b : Key) → a.mixed ≡ b.mixed → a.name.now ≡ b.name.now → key_lt b a ≡ false → a.number ≤ b.number
tied a b m n h =
    let one = when_equal b.mixed a.mixed (ordering_then (slice_cmp nat_cmp b.name.now a.name.now) (nat_cmp b.number a.number)) (sym m) h in
    let same : slice_cmp nat_cmp b.name.now a.name.now ≡ Equal = subst (λ (l : List ℕ). slice_cmp nat_cmp b.name.now l ≡ Equal) (sym n) (tied_itself nat_list_cmp_total b.name.now) in
    not_less b.number a.number (sym (ap (λ (r : Ordering). is_lt (ordering_then r (nat_cmp b.number a.number))) same) ∙ one)

both_ways : (o p : Ordering) → p ≡ ordering_reverse o → is_lt o ≡ false → is_lt p ≡ false → o ≡ Equal
both_ways Less p e h k = absurd (false≢true (sym h))
both_ways Equal p e h k = refl
both_ways Greater p e h k = absurd (false≢true (sym (sym (ap is_lt e) ∙ k)))

same_bytes : (a b : List ℕ) → slice_cmp nat_cmp a b ≡ Equal → a ≡ b
same_bytes a b e = (bytes_eq-Decides a b).0 (sym (is_eq-slice_cmp a b) ∙ rw e refl)

-- what stands between two keys of one name has that name
between : (a p b : Key) → a.mixed ≡ b.mixed → a.name.now ≡ b.name.now → key_lt p a ≡ false → key_lt b p ≡ false → (p.mixed ≡ b.mixed) × (p.name.now ≡ b.name.now)
between a p b m n h k =
    let low = not_more p.mixed a.mixed _ h in
    let high = not_more b.mixed p.mixed _ k in
    let mixed : p.mixed ≡ b.mixed = omega (arith, low, high, m) in
    let one = first_of_two _ _ (when_equal p.mixed a.mixed _ (mixed ∙ sym m) h) in
    let other = first_of_two _ _ (when_equal b.mixed p.mixed _ (sym mixed) k) in
    let one : is_lt (slice_cmp nat_cmp p.name.now b.name.now) ≡ false = subst (λ (l : List ℕ). is_lt (slice_cmp nat_cmp p.name.now l) ≡ false) n one in
    (mixed, same_bytes p.name.now b.name.now (both_ways _ _ (nat_list_cmp_total.antisymm b.name.now p.name.now) one other))

-- ---- sorted keys of names

pub record AreSorted (names : List (List ℕ)) (keys : List Key) : Type 0 where
  pub sorted : IsSortedBy key_lt keys
  pub each : All (IsKey names) keys
  pub differ : AllPairs (λ (a b : Key). a.number ≢ b.number) keys
  pub all : (i : ℕ) → i < length names → (a : ℕ) × (k : Key) × (slice_get keys a ≡ Some k) × (k.number ≡ i)

module _ (names : List (List ℕ)) (keys : List Key) (ready : AreSorted names keys) where
  key_at : (a : ℕ) (k : Key) → slice_get keys a ≡ Some k → IsKey names k
  key_at a k at = subst (IsKey names) (get_or_from_slice_get keys a k k at) (ready.each a k (slice_get_within keys a k at))

  in_order : (a b : ℕ) (j k : Key) → slice_get keys a ≡ Some j → slice_get keys b ≡ Some k → a ≤ b → key_lt k j ≡ false
  in_order a b j k one other le =
      let far = sorted_far key_lt key_order keys ready.sorted a b j le (slice_get_within keys b k other) in
      ap (λ (x : Key). key_lt k x) (sym (get_or_from_slice_get keys a j j one)) ∙ ap (λ (x : Key). key_lt x (slice_index_or keys a j)) (sym (get_or_from_slice_get keys b k j other)) ∙ far

  name_is : (k : Key) → IsKey names k → name_at names k.number ≡ k.name.now
  name_is k is = get_or_from_slice_get names k.number k.name.now [] is.name

  same_mixed : (j k : Key) → IsKey names j → IsKey names k → j.name.now ≡ k.name.now → j.mixed ≡ k.mixed
  same_mixed j k a b e = a.mixed ∙ ap mixed_of e ∙ sym b.mixed

  same_is : (j k : Key) → j.mixed ≡ k.mixed → j.name.now ≡ k.name.now → is_same j k ≡ true
  same_is j k m n = rw (eq-eqb j.mixed k.mixed m, (bytes_eq-Decides j.name.now k.name.now).1 n) refl

  both : (p q : Bool) → (p && q) ≡ true → (p ≡ true) × (q ≡ true)
  both true true e = (refl, refl)
  both true false e = absurd (false≢true e)
  both false q e = absurd (false≢true e)

  -- neighbours of one name: that of the later one stands earlier
  pub repeats : (a : ℕ) (j k : Key) → slice_get keys a ≡ Some j → slice_get keys (a + 1) ≡ Some k → is_same j k ≡ true → RepeatsAt names k.number
  repeats a j k one other same =
      let parts = both (j.mixed == k.mixed) (bytes_eq j.name.now k.name.now) same in
      let m = eqb-true j.mixed k.mixed parts.0 in
      let n = (bytes_eq-Decides j.name.now k.name.now).0 parts.1 in
      let le = tied j k m n (in_order a (a + 1) j k one other (omega arith)) in
      let apart = ready.differ a (a + 1) j (omega arith) (slice_get_within keys (a + 1) k other) in
      let differ : j.number ≢ k.number = λ e. apart (ap (λ (x : Key). x.number) (get_or_from_slice_get keys a j j one) ∙ e ∙ sym (ap (λ (x : Key). x.number) (get_or_from_slice_get keys (a + 1) k j other))) in
      (j.number, omega (arith, le, differ), name_is j (key_at a j one) ∙ n ∙ sym (name_is k (key_at (a + 1) k other)))

  -- a name that stands earlier is that of the neighbour before it
  abbrev pub Neighbours : ℕ → Type 0
  Neighbours i = (a : ℕ) × (j : Key) × (k : Key) × (slice_get keys a ≡ Some j) × (slice_get keys (a + 1) ≡ Some k) × (is_same j k ≡ true) × (k.number ≡ i)

  before_last : (j k : Key) (a b i : ℕ) → a < b → slice_get keys a ≡ Some j → slice_get keys b ≡ Some k → j.mixed ≡ k.mixed → j.name.now ≡ k.name.now → k.number ≡ i → Neighbours i
  before_last j k a (suc b) i lt one other m n at =
      let inside = slice_get_within keys (suc b) k other in
      let p : Key = slice_index_or keys b j in
      let here : slice_get keys b ≡ Some p = slice_get-get_or keys b j (omega (arith, inside)) in
      let last : slice_get keys (b + 1) ≡ Some k = (let e : b + 1 ≡ suc b = omega arith in rw e other) in
      let same = between j p k m n (in_order a b j p one here (omega (arith, lt))) (in_order b (suc b) p k here other (omega arith)) in
      (b, p, k, here, last, same_is p k same.0 same.1, at)
  before_last j k a zero i lt one other m n at = absurd (omega (arith, lt))

  pub neighbours : (i : ℕ) → i < length names → RepeatsAt names i → Neighbours i
  neighbours i inside (j, less, e) =
      let q = ready.all i inside in
      let r = ready.all j (omega (arith, less, inside)) in
      let is_q = key_at q.0 q.1 q.2 in
      let is_r = key_at r.0 r.1 r.2 in
      let n : r.1.name.now ≡ q.1.name.now = sym (name_is r.1 is_r) ∙ ap (λ (i : ℕ). name_at names i) r.3 ∙ e ∙ sym (ap (λ (i : ℕ). name_at names i) q.3) ∙ name_is q.1 is_q in
      let m = same_mixed r.1 q.1 is_r is_q n in
      elim (cases_lt r.0 q.0) as (λ _. Neighbours i) [
        | inl lt ↦ before_last r.1 q.1 r.0 q.0 i lt r.2 q.2 m n q.3
        | inr le ↦
            let back : q.1.number ≤ r.1.number = tied q.1 r.1 (sym m) (sym n) (in_order q.0 r.0 q.1 r.1 q.2 r.2 le) in
            absurd (omega (arith, back, q.3, r.3, less))
      ]

-- ---- after a sort

AllPairs-of_map : {X : Type 0} (f : X → ℕ) (xs : List X) → AllPairs ◌≢◌ (map f xs) → AllPairs (λ (a b : X). f a ≢ f b) xs
AllPairs-of_map f xs h = λ i j d before in_list.
    let n : length (map f xs) ≡ length xs = length-map xs f in
    subst (λ y. y ≢ f (slice_index_or xs j d)) (get_or-map f xs i d (f d) (omega arith)) (subst (λ y. slice_index_or (map f xs) i (f d) ≢ y) (get_or-map f xs j d (f d) in_list) (h i j (f d) before (omega arith)))

distinct_range : (n : ℕ) → AllPairs ◌≢◌ (range_with_len 0 n)
distinct_range n = λ i j d before in_list e.
    let len : length (range_with_len 0 n) ≡ n = length-range_with_len 0 n in
    let a : slice_index_or (range_with_len 0 n) i d ≡ 0 + i = get_or-range_with_len 0 n i d (omega arith) in
    let b : slice_index_or (range_with_len 0 n) j d ≡ 0 + j = get_or-range_with_len 0 n j d (omega arith) in
    omega arith

distinct_permuted : (xs ys : List ℕ) → IsPermutation xs ys → AllPairs ◌≢◌ xs → AllPairs ◌≢◌ ys
distinct_permuted xs ys perm h = AllPairs-from_IsDistinct Decides-eqb ys (IsDistinct-IsPermutation nat_eq nat_eq_equiv.symm xs ys perm (IsDistinct-from_AllPairs Decides-eqb xs h))

in_range : (n i : ℕ) → i < n → Contains (range_with_len 0 n) i
in_range n i lt = (i, omega (arith, lt, length-range_with_len 0 n), omega (arith, get_or-range_with_len 0 n i i lt))

key_of : (keys : List Key) (i : ℕ) → Contains (map (λ (k : Key). k.number) keys) i → (a : ℕ) × (k : Key) × (slice_get keys a ≡ Some k) × (k.number ≡ i)
key_of keys i (a, lt, is) =
    let n : length (map (λ (k : Key). k.number) keys) ≡ length keys = length-map keys (λ (k : Key). k.number) in
    elim (slice_get_cases keys a).1 as (λ _. (a : ℕ) × (k : Key) × (slice_get keys a ≡ Some k) × (k.number ≡ i)) [
      | inl (k, inside, found, is_k) ↦ (a, k, found, ap (λ (k : Key). k.number) (sym is_k) ∙ sym (get_or-map (λ (k : Key). k.number) keys a k i inside) ∙ is)
      | inr past ↦ absurd (omega (arith, past.0, lt, n))
    ]

pub are_sorted : (exports : List Export) (keys sorted : List Key) → map (λ (k : Key). k.number) keys ≡ range_with_len 0 (length exports) → All (IsKey (names_of exports)) keys
    → IsPermutation keys sorted → IsSortedBy key_lt sorted → AreSorted (names_of exports) sorted
are_sorted exports keys sorted numbers each perm up =
    let names = names_of exports in
    let numbers : map (λ (k : Key). k.number) keys ≡ range_with_len 0 (length names) = numbers ∙ ap (λ n. range_with_len 0 n) (sym (length-map exports (λ (e : Export). e.name.now))) in
    let moved = IsPermutation-map (λ (k : Key). k.number) keys sorted perm in
    let from_range : IsPermutation (range_with_len 0 (length names)) (map (λ (k : Key). k.number) sorted) = subst (λ (l : List ℕ). IsPermutation l (map (λ (k : Key). k.number) sorted)) numbers moved in
    record {
      sorted = up;
      each = All-permutation (IsKey names) keys sorted perm each;
      differ = AllPairs-of_map (λ (k : Key). k.number) sorted (distinct_permuted _ _ from_range (distinct_range (length names)));
      all = λ i lt. key_of sorted i (Contains-permutation _ _ i from_range (in_range (length names) i lt));
    }

-- ---- the least number of a neighbour

-- after the first `i` keys
pub record Looked (names : List (List ℕ)) (keys : List Key) (from first i : ℕ) : Type 0 where
  pub within : first ≤ length names
  pub repeats : first < length names → (from ≤ first) × RepeatsAt names first
  pub least : (a : ℕ) (j k : Key) → a + 1 < i → slice_get keys a ≡ Some j → slice_get keys (a + 1) ≡ Some k → is_same j k ≡ true → from ≤ k.number → first ≤ k.number

pub none_looked : (exports : List Export) (keys : List Key) (from : ℕ) → Looked (names_of exports) keys from (length exports) 1
none_looked exports keys from = let n = length-map exports (λ (e : Export). e.name.now) in record { within = omega (arith, n); repeats = λ lt. absurd (omega (arith, n, lt)); least = λ a j k lt _ _ _ _. absurd (omega (arith, lt)) }

-- what `less_of` gives
less_cases : (first from : ℕ) (j k : Key) → ((is_same j k ≡ true) × (from ≤ k.number) × (k.number < first) × (less_of first from j k ≡ k.number))
    ⊎ ((is_same j k ≡ true → from ≤ k.number → first ≤ k.number) × (less_of first from j k ≡ first))
less_cases first from j k = elim (cases_Bool (is_same j k)) [
  | inl same ↦ elim (cases_lt k.number from) [
    | inl lt ↦ inr ((λ _ le. absurd (omega (arith, lt, le))), rw (same, lt-leb from k.number lt) refl)
    | inr le ↦ elim (cases_lt k.number first) [
      | inl lt ↦ inl (same, le, lt, rw (same, le-leb from k.number le, lt-ltb k.number first lt) refl)
      | inr ge ↦ inr ((λ _ _. ge), rw (same, le-leb from k.number le, le-ltb k.number first ge) refl)
    ]
  ]
  | inr other ↦ inr ((λ same. absurd (false≢true (sym other ∙ same))), rw other refl)
]

some_key : (x y : Key) → (let some : Key → Option Key = λ k. Some k in some x ≡ some y) → x ≡ y
some_key x y e = cc

pub looks_on : (names : List (List ℕ)) (keys : List Key) (from first i : ℕ) (j k : Key) → AreSorted names keys → Looked names keys from first i → 1 ≤ i → i < length keys
    → j ≡ slice_index_or keys (i - 1) j → k ≡ slice_index_or keys i k → Looked names keys from (less_of first from j k) (i + 1)
looks_on names keys from first (suc i) j k ready so some inside is_j is_k =
    let before : suc i - 1 ≡ i = omega arith in
    let one : slice_get keys i ≡ Some j = slice_get-get_or keys i j (omega (arith, inside)) ∙ ap (λ (k : Key). Some k) (sym (is_j ∙ ap (λ (n : ℕ). slice_index_or keys n j) before)) in
    let other : slice_get keys (i + 1) ≡ Some k = (let e : i + 1 ≡ suc i = omega arith in rw e (slice_get-get_or keys (suc i) k inside ∙ ap (λ (k : Key). Some k) (sym is_k))) in
    let number_in : k.number < length names = slice_get_within names k.number k.name.now (key_at names keys ready (i + 1) k other).name in
    let same_or_less : (new : ℕ) → new ≤ first → (is_same j k ≡ true → from ≤ k.number → new ≤ k.number) → (a : ℕ) (x y : Key) → a + 1 < suc i + 1 → slice_get keys a ≡ Some x
    → slice_get keys (a + 1) ≡ Some y → is_same x y ≡ true → from ≤ y.number → new ≤ y.number =
    λ new le last a x y lt here there same low. elim (cases_lt (a + 1) (suc i)) as (λ _. new ≤ y.number) [
      | inl before ↦ let h = so.least a x y before here there same low in omega (arith, h, le)
      | inr at ↦
          let e : a ≡ i = omega (arith, at, lt) in
          let x_is : x ≡ j = some_key x j (sym here ∙ ap (λ (n : ℕ). slice_get keys n) e ∙ one) in
          let y_is : y ≡ k = some_key y k (sym there ∙ ap (λ (n : ℕ). slice_get keys (n + 1)) e ∙ other) in
          let same : is_same j k ≡ true = subst (λ (z : Key). is_same z k ≡ true) x_is (subst (λ (z : Key). is_same x z ≡ true) y_is same) in
          let low : from ≤ k.number = subst (λ (z : Key). from ≤ z.number) y_is low in
          subst (λ (z : Key). new ≤ z.number) (sym y_is) (last same low)
    ] in
    elim (less_cases first from j k) as (λ _. Looked names keys from (less_of first from j k) (suc i + 1)) [
      | inl (same, low, less, is) ↦ rw is (record {
        within = omega (arith, number_in);
        repeats = λ _. (low, repeats names keys ready i j k one other same);
        least = same_or_less k.number (omega (arith, less)) (λ _ _. omega arith);
      })
      | inr (last, is) ↦ rw is (record { within = so.within; repeats = so.repeats; least = same_or_less first (omega arith) last })
    ]
looks_on names keys from first zero j k ready so some inside is_j is_k = absurd (omega (arith, some))

pub all_looked : (names : List (List ℕ)) (keys : List Key) (from first i : ℕ) → AreSorted names keys → Looked names keys from first i → length keys ≤ i → IsFirstRepeat names from first
all_looked names keys from first i ready so end = record {
  within = so.within;
  repeats = so.repeats;
  least = λ n low below again.
      let w = so.within in
      let at = neighbours names keys ready n (omega (arith, below, w)) again in
      let inside = slice_get_within keys (at.0 + 1) at.2 at.4 in
      let le = so.least at.0 at.1 at.2 (omega (arith, inside, end)) at.3 at.4 at.5 (omega (arith, at.6, low)) in
      omega (arith, le, at.6, below);
}

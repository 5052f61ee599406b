-- Lemmas: the ids of merged types, by their indices: each is a new one above all before it, or an earlier type has it.
use Rattle.std.specs.Prelude.{ℕ, zero, suc, ◌≡◌, ◌<◌, ◌≤◌, ◌+◌, ◌-◌, ◌==◌, ◌||◌, ◌⊎◌, Bool, true, false, List, [], ◌∷◌, ◌++◌, length, take, refl}
use Rattle.std.specs.List.{list_any, range_with_len}
use Rattle.std.proofs.Common.{ap, sym, ◌∙◌, arith, inl, inr}
use Rattle.std.proofs.lemmas.Bool.{cases_lt, eq-eqb, ne_eqb}
use Rattle.std.proofs.lemmas.List.{length-append}
use Rattle.std.proofs.lemmas.List.FromFn.{length-range_with_len}
use Rattle.walrus_forms.specs.Renaming.{at}

-- ---- lists of ids

pub at_left : (xs ys : List ℕ) (n : ℕ) → n < length xs → at (xs ++ ys) n ≡ at xs n
at_left [] ys n lt = absurd (omega (arith, lt))
at_left (x ∷ xs) ys zero lt = refl
at_left (x ∷ xs) ys (suc n) lt = at_left xs ys n (omega (arith, lt))

pub at_right : (xs ys : List ℕ) (n : ℕ) → length xs ≤ n → at (xs ++ ys) n ≡ at ys (n - length xs)
at_right [] ys n le = ap (at ys) (let e : n ≡ n - 0 = omega arith in e)
at_right (x ∷ xs) ys zero le = absurd (omega (arith, le))
at_right (x ∷ xs) ys (suc n) le = at_right xs ys n (omega (arith, le)) ∙ ap (at ys) (let e : n - length xs ≡ suc n - suc (length xs) = omega arith in e)

pub at_range : (first count k : ℕ) → k < count → at (range_with_len first count) k ≡ first + k
at_range first zero k lt = absurd (omega (arith, lt))
at_range first (suc count) zero lt = omega arith
at_range first (suc count) (suc k) lt = at_range (first + 1) count k (omega (arith, lt)) ∙ (let e : (first + 1) + k ≡ first + suc k = omega arith in e)

pub range_joined : (first count more : ℕ) → range_with_len first count ++ range_with_len (first + count) more ≡ range_with_len first (count + more)
range_joined first zero more =
    ap (λ (n : ℕ). range_with_len n more) (let e : first + 0 ≡ first = omega arith in e) ∙ ap (range_with_len first) (let e : more ≡ 0 + more = omega arith in e)
range_joined first (suc count) more =
    ap (λ (l : List ℕ). first ∷ l)
    (ap (λ (n : ℕ). range_with_len (first + 1) count ++ range_with_len n more) (let e : first + suc count ≡ (first + 1) + count = omega arith in e) ∙ range_joined (first + 1) count more)
    ∙ ap (range_with_len first) (let e : suc (count + more) ≡ suc count + more = omega arith in e)

-- ---- whether an id is among some

or_true : (b : Bool) → (b || true) ≡ true
or_true true = refl
or_true false = refl

pub has_at : (xs : List ℕ) (n : ℕ) → n < length xs → list_any (λ m. m == at xs n) xs ≡ true
has_at [] n lt = absurd (omega (arith, lt))
has_at (x ∷ xs) zero lt = ap (λ (b : Bool). b || list_any (λ m. m == x) xs) (eq-eqb x x refl)
has_at (x ∷ xs) (suc n) lt = ap (λ (b : Bool). x == at xs n || b) (has_at xs n (omega (arith, lt))) ∙ or_true (x == at xs n)

pub has_none : (xs : List ℕ) (id : ℕ) → ((n : ℕ) → n < length xs → at xs n < id) → list_any (λ m. m == id) xs ≡ false
has_none [] id below = refl
has_none (x ∷ xs) id below =
    let first : x < id = below 0 (omega arith) in
    ap (λ (b : Bool). b || list_any (λ m. m == id) xs) (ne_eqb x id (λ e. omega (arith, e, first))) ∙ has_none xs id (λ n lt. below (suc n) (omega (arith, lt)))

pub front_is : (xs ys : List ℕ) → take (length xs) (xs ++ ys) ≡ xs
front_is [] ys = refl
front_is (x ∷ xs) ys = ap (λ (l : List ℕ). x ∷ l) (front_is xs ys)

pub behind_is : (xs : List ℕ) (y : ℕ) (ys : List ℕ) → at (xs ++ y ∷ ys) (length xs) ≡ y
behind_is [] y ys = refl
behind_is (x ∷ xs) y ys = behind_is xs y ys

-- ---- ids in order

-- ids below an end, each of which is among them; each is above all before it, or is one of these
pub record AreOrderly (ids : List ℕ) (end : ℕ) : Type 0 where
  pub below : (n : ℕ) → n < length ids → at ids n < end
  pub onto : (k : ℕ) → k < end → (n : ℕ) × (n < length ids) × (at ids n ≡ k)
  pub rise : (n : ℕ) → n < length ids → ((m : ℕ) → m < n → at ids m < at ids n) ⊎ ((m : ℕ) × (m < n) × (at ids m ≡ at ids n))

pub none_orderly : AreOrderly [] 0
none_orderly = record { below = λ n lt. absurd (omega (arith, lt)); onto = λ k lt. absurd (omega (arith, lt)); rise = λ n lt. absurd (omega (arith, lt)) }

module _ (ids : List ℕ) (end : ℕ) (h : AreOrderly ids end) where
  -- earlier ones stay as they are
  rise_still : (more : List ℕ) (n : ℕ) → n < length ids → ((m : ℕ) → m < n → at (ids ++ more) m < at (ids ++ more) n) ⊎ ((m : ℕ) × (m < n) × (at (ids ++ more) m ≡ at (ids ++ more) n))
  rise_still more n lt = elim (h.rise n lt) as (λ _. ((m : ℕ) → m < n → at (ids ++ more) m < at (ids ++ more) n) ⊎ ((m : ℕ) × (m < n) × (at (ids ++ more) m ≡ at (ids ++ more) n))) [
    | inl above ↦ inl (λ m less. (let here = above m less in
        let left = at_left ids more m (omega (arith, less, lt)) in
        let right = at_left ids more n lt in omega (arith, here, left, right)))
    | inr seen ↦ inr (seen.0, seen.1, (let less = seen.1 in at_left ids more seen.0 (omega (arith, less, lt)) ∙ seen.2 ∙ sym (at_left ids more n lt)))
  ]

  -- one that was there
  pub one_more : (id : ℕ) → id < end → AreOrderly (ids ++ id ∷ []) end
  one_more id small =
      let size : length (ids ++ id ∷ []) ≡ length ids + 1 = length-append ids (id ∷ []) in
      let last : at (ids ++ id ∷ []) (length ids) ≡ id = behind_is ids id [] in
      record {
        below = λ n lt. elim (cases_lt n (length ids)) as (λ _. at (ids ++ id ∷ []) n < end) [
          | inl less ↦ (let old = h.below n less in let same = at_left ids (id ∷ []) n less in omega (arith, old, same))
          | inr ge ↦ (let here : n ≡ length ids = omega (arith, ge, lt, size) in let e : at (ids ++ id ∷ []) n ≡ id = ap (at (ids ++ id ∷ [])) here ∙ last in omega (arith, e, small))
        ];
        onto = λ k lt. (let old = h.onto k lt in let less = old.1 in (old.0, (let bound : old.0 < length (ids ++ id ∷ []) = omega (arith, less, size) in bound), at_left ids (id ∷ []) old.0 less ∙ old.2));
        rise = λ n lt. elim (cases_lt n (length ids)) as (λ _. ((m : ℕ) → m < n → at (ids ++ id ∷ []) m < at (ids ++ id ∷ []) n) ⊎ ((m : ℕ) × (m < n) × (at (ids ++ id ∷ []) m ≡ at (ids ++ id ∷ []) n))) [
          | inl less ↦ rise_still (id ∷ []) n less
          | inr ge ↦ (let here : n ≡ length ids = omega (arith, ge, lt, size) in
              let old = h.onto id small in
              let less = old.1 in
              inr (old.0, (let bound : old.0 < n = omega (arith, less, here) in bound), at_left ids (id ∷ []) old.0 less ∙ old.2 ∙ sym (ap (at (ids ++ id ∷ [])) here ∙ last)))
        ];
      }

  -- new ones
  pub many_more : (count : ℕ) → AreOrderly (ids ++ range_with_len end count) (end + count)
  many_more count =
      let own = range_with_len end count in
      let size : length (ids ++ own) ≡ length ids + count = length-append ids own ∙ ap (λ (n : ℕ). length ids + n) (length-range_with_len end count) in
      let new : (n : ℕ) → length ids ≤ n → n < length (ids ++ own) → at (ids ++ own) n ≡ end + (n - length ids) = λ n ge lt. at_right ids own n ge ∙ at_range end count (n - length ids) (omega (arith, ge, lt, size)) in
      record {
        below = λ n lt. elim (cases_lt n (length ids)) as (λ _. at (ids ++ own) n < end + count) [
          | inl less ↦ (let old = h.below n less in let same = at_left ids own n less in omega (arith, old, same))
          | inr ge ↦ (let e = new n ge lt in omega (arith, e, ge, lt, size))
        ];
        onto = λ k lt. elim (cases_lt k end) as (λ _. (n : ℕ) × (n < length (ids ++ own)) × (at (ids ++ own) n ≡ k)) [
          | inl less ↦ (let old = h.onto k less in let small = old.1 in (old.0, (let bound : old.0 < length (ids ++ own) = omega (arith, small, size) in bound), at_left ids own old.0 small ∙ old.2))
          | inr ge ↦ (let bound : length ids + (k - end) < length (ids ++ own) = omega (arith, ge, lt, size) in
              let e = new (length ids + (k - end)) (omega arith) bound in
              (length ids + (k - end), bound, e ∙ (let is : end + ((length ids + (k - end)) - length ids) ≡ k = omega (arith, ge) in is)))
        ];
        rise = λ n lt. elim (cases_lt n (length ids)) as (λ _. ((m : ℕ) → m < n → at (ids ++ own) m < at (ids ++ own) n) ⊎ ((m : ℕ) × (m < n) × (at (ids ++ own) m ≡ at (ids ++ own) n))) [
          | inl less ↦ rise_still own n less
          | inr ge ↦ inl (λ m less. elim (cases_lt m (length ids)) as (λ _. at (ids ++ own) m < at (ids ++ own) n) [
            | inl before ↦ (let old = h.below m before in let same = at_left ids own m before in let e = new n ge lt in omega (arith, old, same, e))
            | inr behind ↦ (let e = new n ge lt in let f = new m behind (omega (arith, less, lt)) in omega (arith, e, f, less, behind))
          ])
        ];
      }

  -- the first one with an id
  pub first_with : (bound n : ℕ) → n < bound → n < length ids → (j : ℕ) × (j < length ids) × (at ids j ≡ at ids n) × ((m : ℕ) → m < j → at ids m ≡ at ids j → ⊥)
  first_with zero n lt small = absurd (omega (arith, lt))
  first_with (suc bound) n lt small = go (h.rise n small) (λ m less below. first_with bound m below less)
    where
      go : ((m : ℕ) → m < n → at ids m < at ids n) ⊎ ((m : ℕ) × (m < n) × (at ids m ≡ at ids n))
          → ((m : ℕ) → m < length ids → m < bound → (j : ℕ) × (j < length ids) × (at ids j ≡ at ids m) × ((m : ℕ) → m < j → at ids m ≡ at ids j → ⊥))
          → (j : ℕ) × (j < length ids) × (at ids j ≡ at ids n) × ((m : ℕ) → m < j → at ids m ≡ at ids j → ⊥)
      go (inl above) later = (n, small, refl, λ m less e. (let here = above m less in absurd (omega (arith, here, e))))
      go (inr seen) later =
          let less = seen.1 in
          let found = later seen.0 (omega (arith, less, small)) (omega (arith, less, lt)) in (found.0, found.1, found.2 ∙ seen.2, found.3)

  -- one that none before it has is above all of these
  pub above_all : (n : ℕ) → n < length ids → ((m : ℕ) → m < n → at ids m ≡ at ids n → ⊥) → (m : ℕ) → m < n → at ids m < at ids n
  above_all n small none m less = elim (h.rise n small) as (λ _. at ids m < at ids n) [
    | inl above ↦ above m less
    | inr seen ↦ absurd (none seen.0 seen.1 seen.2)
  ]

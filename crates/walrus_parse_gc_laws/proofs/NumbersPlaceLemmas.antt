-- Lemmas: each of a function's locals has its place among them as its number.
use Rattle.std.specs.Prelude.{ℕ, zero, suc, ◌≡◌, ◌<◌, ◌≤◌, ◌+◌, ◌-◌, ◌==◌, ◌&&◌, ◌||◌, Bool, true, false, List, [], ◌∷◌, ◌++◌, length, map, Option, Some, None, slice_get, refl, if◌then◌else◌}
use Rattle.std.proofs.Common.{ap, sym, ◌∙◌, subst, arith, inl, inr}
use Rattle.std.proofs.lemmas.Bool.{cases_lt, eq-eqb}
use Rattle.walrus_body_names.specs.walrus_pairing.walrus_index_maps.Maps.{with_local}
use Rattle.walrus_body_names.specs.walrus_pairing.walrus_items.declared.local.Local.{Local}
use Rattle.walrus_body_names.specs.walrus_tree.Trees.{AreDistinct, Has}
use Rattle.walrus_local_numbers.specs.Declared.{declared, has_number, local_ids, with_numbers}
use Rattle.walrus_local_numbers.specs.Laws.{ArgumentsFirst, IsOnce, OthersFollow}
use Rattle.walrus_local_numbers.specs.wasm_normal_form.Locals.{Key, position}

abbrev Numbers : Type 0
Numbers = ℕ → ℕ → Option ℕ

abbrev ids : List Key → List ℕ
ids ks = map (λ (k : Key). k.1) ks

some_is : (n k : ℕ) → Some n ≡ Some k → n ≡ k
some_is n k e = cc

-- ---- places in lists

get_front : (xs ys : List ℕ) (n : ℕ) → n < length xs → slice_get (xs ++ ys) n ≡ slice_get xs n
get_front [] ys n lt = absurd (omega (arith, lt))
get_front (x ∷ xs) ys zero lt = refl
get_front (x ∷ xs) ys (suc n) lt = get_front xs ys n (omega (arith, lt))

get_behind : (xs ys : List ℕ) (i n : ℕ) → n ≡ length xs + i → slice_get (xs ++ ys) n ≡ slice_get ys i
get_behind [] ys i n e = ap (slice_get ys) (omega (arith, e))
get_behind (x ∷ xs) ys i zero e = absurd (omega (arith, e))
get_behind (x ∷ xs) ys i (suc n) e = get_behind xs ys i n (omega (arith, e))

or_true : (b : Bool) → (b || true) ≡ true
or_true true = refl
or_true false = refl

number_at : (xs : List ℕ) (i id : ℕ) → slice_get xs i ≡ Some id → has_number xs id ≡ true
number_at [] i id e = absurd cc
number_at (x ∷ xs) zero id e = ap (λ (b : Bool). b || has_number xs id) (eq-eqb x id (some_is x id e))
number_at (x ∷ xs) (suc i) id e = ap (λ (b : Bool). (x == id) || b) (number_at xs i id e) ∙ or_true (x == id)

has_at : (xs : List ℕ) (i id : ℕ) → slice_get xs i ≡ Some id → Has xs id
has_at [] i id e = absurd cc
has_at (x ∷ xs) zero id e = inl (some_is x id e)
has_at (x ∷ xs) (suc i) id e = inr (has_at xs i id e)

-- where none stands twice, each has one place
pub once_of : (xs : List ℕ) → AreDistinct xs → IsOnce xs
once_of [] d i j id a b = absurd cc
once_of (x ∷ xs) d zero zero id a b = refl
once_of (x ∷ xs) d zero (suc j) id a b = absurd (d.0 (subst (Has xs) (sym (some_is x id a)) (has_at xs j id b)))
once_of (x ∷ xs) d (suc i) zero id a b = absurd (d.0 (subst (Has xs) (sym (some_is x id b)) (has_at xs i id a)))
once_of (x ∷ xs) d (suc i) (suc j) id a b = ap suc (once_of xs d.1 i j id a b)

-- ---- numbers that are given in turn

abbrev IsFrom : ℕ → Option ℕ → Type 0
IsFrom k None = ⊥
IsFrom k (Some n) = k ≤ n

-- a number stays, or a greater one is given in its place
stays : (f n id k : ℕ) (xs : List ℕ) (m : Numbers) → k ≤ n → IsFrom k (m f id) → IsFrom k (with_numbers f n xs m f id)
stays f n id k [] m le h = h
stays f n id k (x ∷ xs) m le h = stays f (suc n) id k xs (with_local f x n m) (omega (arith, le)) (by ((f == f) && (id == x)))
  where
    by : (b : Bool) → IsFrom k (if b then Some n else m f id)
    by true = le
    by false = h

-- what stands at a place has the number of that place, or one behind it
numbered : (f n id i : ℕ) (xs : List ℕ) (m : Numbers) → slice_get xs i ≡ Some id → IsFrom (n + i) (with_numbers f n xs m f id)
numbered f n id i [] m e = absurd cc
numbered f n id zero (x ∷ xs) m e = stays f (suc n) id (n + 0) xs (with_local f x n m) (omega arith) (subst (IsFrom (n + 0)) (sym (set (eq-eqb id x (sym (some_is x id e))))) (omega arith))
  where
    set : (id == x) ≡ true → with_local f x n m f id ≡ Some n
    set same = rw (eq-eqb f f refl) (rw same refl)
numbered f n id (suc i) (x ∷ xs) m e =
    let at : suc n + i ≡ n + suc i = omega arith in
    subst (λ (k : ℕ). IsFrom k (with_numbers f (suc n) xs (with_local f x n m) f id)) at (numbered f (suc n) id i xs (with_local f x n m) e)

-- no place of a number is before the first
first_place : (ks : List Key) (id i : ℕ) → slice_get (ids ks) i ≡ Some id → position ks id ≤ i
first_place [] id i e = absurd cc
first_place (k ∷ ks) id zero e = let none : position (k ∷ ks) id ≡ 0 = ap (λ (b : Bool). if b then 0 else suc (position ks id)) (eq-eqb k.1 id (some_is k.1 id e)) in omega (arith, none)
first_place (k ∷ ks) id (suc i) e = by (k.1 == id) (first_place ks id i e)
  where
    by : (b : Bool) → position ks id ≤ i → (if b then 0 else suc (position ks id)) ≤ suc i
    by true le = omega arith
    by false le = omega (arith, le)

-- ---- a function's locals

module _ (first : ArgumentsFirst) (follow : OthersFollow) (locals : List Local) (args used : List ℕ) (f : ℕ) (m : Numbers) where
  abbrev keys : List Key
  keys = declared locals args used

  behind : (i id : ℕ) → slice_get (ids keys) i ≡ Some id → with_numbers f 0 (local_ids locals args used) m f id ≡ Some (length args + i)
  behind i id e =
      let given = follow locals args used f m id (number_at (ids keys) i id e) in
      let low = first_place keys id i e in
      let high : 0 + (length args + i) ≤ length args + position keys id = subst (IsFrom (0 + (length args + i))) given (numbered f 0 id (length args + i) (local_ids locals args used) m (get_behind args (ids keys) i (length args + i) refl ∙ e)) in
      given ∙ ap (λ (n : ℕ). Some n) (omega (arith, low, high))

  pub has_place : IsOnce args → (i id : ℕ) → slice_get (local_ids locals args used) i ≡ Some id → with_numbers f 0 (local_ids locals args used) m f id ≡ Some i
  has_place once i id e = elim (cases_lt i (length args)) as (λ _. with_numbers f 0 (local_ids locals args used) m f id ≡ Some i) [
    | inl lt ↦ first locals args used f m i id once (sym (get_front args (ids keys) i lt) ∙ e)
    | inr le ↦
        let at : i ≡ length args + (i - length args) = omega (arith, le) in
        behind (i - length args) id (sym (get_behind args (ids keys) (i - length args) i at) ∙ e) ∙ ap (λ (n : ℕ). Some n) (sym at)
  ]

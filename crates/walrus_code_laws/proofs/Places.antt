-- Lemmas: the numbers of a function's locals are their places.
use Rattle.std.specs.Prelude.{ℕ, suc, ◌+◌, ◌≡◌, ◌==◌, ◌||◌, Bool, true, false, List, [], ◌∷◌, ◌++◌, length, map, Option, Some, slice_get, if◌then◌else◌, refl}
use Rattle.std.proofs.Common.{ap, sym, ◌∙◌, arith}
use Rattle.std.proofs.lemmas.Bool.{eqb-true, eq-eqb, false≢true}
use Rattle.wasm_normal_form.specs.Locals.{Key, position}
use Rattle.walrus_items.specs.declared.local.Local.{Local}
use Rattle.walrus_index_maps.specs.Maps.{with_local}
use Rattle.walrus_local_numbers.specs.Declared.{declared, has_number, local_ids, with_numbers}
use Rattle.walrus_local_numbers.specs.Laws.{ArgumentsFirst, IsOnce, OthersFollow}
use Rattle.walrus_meaning.specs.Bodies.{depth_of}
use Rattle.walrus_code_laws.specs.Spelled.{HavePlaces}

abbrev Numbers : Type 0
Numbers = ℕ → ℕ → Option ℕ

some_same : (m n : ℕ) → (let some : ℕ → Option ℕ = λ k. Some k in some m ≡ some n) → m ≡ n
some_same m n e = cc

by_truth : (b c : Bool) → (b ≡ true → c ≡ true) → c ≡ false → b ≡ false
by_truth true c h e = let clash : true ≡ false = sym (h refl) ∙ e in absurd cc
by_truth false c h e = refl

turned : (m n : ℕ) → (m == n) ≡ false → (n == m) ≡ false
turned m n e = by_truth (n == m) (m == n) (λ is. eq-eqb m n (sym (eqb-true n m is))) e

-- ---- places in lists

stands_by : (id x : ℕ) (xs : List ℕ) (b : Bool) → (x == id) ≡ b → (b || has_number xs id) ≡ true → (has_number xs id ≡ true → slice_get xs (depth_of xs id) ≡ Some id)
    → slice_get (x ∷ xs) (if b then 0 else suc (depth_of xs id)) ≡ Some id
stands_by id x xs true e h rest = ap (λ (n : ℕ). Some n) (eqb-true x id e)
stands_by id x xs false e h rest = rest h

stands : (xs : List ℕ) (id : ℕ) → has_number xs id ≡ true → slice_get xs (depth_of xs id) ≡ Some id
stands [] id h = absurd (false≢true h)
stands (x ∷ xs) id h = stands_by id x xs (x == id) refl h (stands xs id)

front_by : (id x : ℕ) (xs ys : List ℕ) (b : Bool) → (b || has_number xs id) ≡ true → (has_number xs id ≡ true → depth_of (xs ++ ys) id ≡ depth_of xs id)
    → (if b then 0 else suc (depth_of (xs ++ ys) id)) ≡ (if b then 0 else suc (depth_of xs id))
front_by id x xs ys true h rest = refl
front_by id x xs ys false h rest = ap (λ (n : ℕ). suc n) (rest h)

front : (xs ys : List ℕ) (id : ℕ) → has_number xs id ≡ true → depth_of (xs ++ ys) id ≡ depth_of xs id
front [] ys id h = absurd (false≢true h)
front (x ∷ xs) ys id h = front_by id x xs ys (x == id) h (front xs ys id)

back_by : (id : ℕ) (xs ys : List ℕ) (b : Bool) → (b || has_number xs id) ≡ false → (has_number xs id ≡ false → depth_of (xs ++ ys) id ≡ length xs + depth_of ys id)
    → (if b then 0 else suc (depth_of (xs ++ ys) id)) ≡ suc (length xs) + depth_of ys id
back_by id xs ys true h rest = absurd (false≢true (sym h))
back_by id xs ys false h rest = let e = rest h in omega (arith, e)

back : (xs ys : List ℕ) (id : ℕ) → has_number xs id ≡ false → depth_of (xs ++ ys) id ≡ length xs + depth_of ys id
back [] ys id h = omega arith
back (x ∷ xs) ys id h = back_by id xs ys (x == id) h (back xs ys id)

neither_by : (b : Bool) (xs ys : List ℕ) (id : ℕ) → (b || has_number xs id) ≡ false → (has_number xs id ≡ false → has_number (xs ++ ys) id ≡ false)
    → (b || has_number (xs ++ ys) id) ≡ false
neither_by true xs ys id h rest = absurd (false≢true (sym h))
neither_by false xs ys id h rest = rest h

neither : (xs ys : List ℕ) (id : ℕ) → has_number xs id ≡ false → has_number ys id ≡ false → has_number (xs ++ ys) id ≡ false
neither [] ys id h k = k
neither (x ∷ xs) ys id h k = neither_by (x == id) xs ys id h (λ e. neither xs ys id e k)

depth_is : (ks : List Key) (id : ℕ) → depth_of (map (λ (k : Key). k.1) ks) id ≡ position ks id
depth_is [] id = refl
depth_is (k ∷ ks) id = ap (λ (n : ℕ). if k.1 == id then 0 else suc n) (depth_is ks id)

-- ---- an id that isn't among them has the number that it had

other_local : (f x n id : ℕ) (m : Numbers) → (x == id) ≡ false → with_local f x n m f id ≡ m f id
other_local f x n id m e = rw (eq-eqb f f refl) (rw (turned x id e) refl)

kept_by : (f n x : ℕ) (xs : List ℕ) (m : Numbers) (id : ℕ) (b : Bool) → (x == id) ≡ b → (b || has_number xs id) ≡ false
    → (has_number xs id ≡ false → with_numbers f (suc n) xs (with_local f x n m) f id ≡ with_local f x n m f id) → with_numbers f (suc n) xs (with_local f x n m) f id ≡ m f id
kept_by f n x xs m id true e h rest = absurd (false≢true (sym h))
kept_by f n x xs m id false e h rest = rest h ∙ other_local f x n id m e

kept : (f n : ℕ) (xs : List ℕ) (m : Numbers) (id : ℕ) → has_number xs id ≡ false → with_numbers f n xs m f id ≡ m f id
kept f n [] m id h = refl
kept f n (x ∷ xs) m id h = kept_by f n x xs m id (x == id) refl h (kept f (suc n) xs (with_local f x n m) id)

-- in other functions each has it
not_same : (f g : ℕ) → (f ≡ g → ⊥) → (g == f) ≡ false
not_same f g apart = go (g == f) refl
  where
    go : (b : Bool) → (g == f) ≡ b → b ≡ false
    go true e = absurd (apart (sym (eqb-true g f e)))
    go false e = refl

another : (f g x n id : ℕ) (m : Numbers) → (f ≡ g → ⊥) → with_local f x n m g id ≡ m g id
another f g x n id m apart = rw (not_same f g apart) refl

pub others_kept : (f g n : ℕ) (xs : List ℕ) (m : Numbers) (id : ℕ) → (f ≡ g → ⊥) → with_numbers f n xs m g id ≡ m g id
others_kept f g n [] m id apart = refl
others_kept f g n (x ∷ xs) m id apart = others_kept f g (suc n) xs (with_local f x n m) id apart ∙ another f g x n id m apart

-- ---- arguments have their places, then those that are declared

module _ (first : ArgumentsFirst) (others : OthersFollow) (locals : List Local) (args used : List ℕ) (once : IsOnce args) (f : ℕ) (m : Numbers) where
  abbrev rest : List ℕ
  rest = map (λ (k : Key). k.1) (declared locals args used)

  behind_by : (id n : ℕ) (b : Bool) → has_number args id ≡ false → has_number rest id ≡ b → (m f id ≡ Some n → n ≡ depth_of (args ++ rest) id)
      → with_numbers f 0 (args ++ rest) m f id ≡ Some n → n ≡ depth_of (args ++ rest) id
  behind_by id n true none has old e =
      let is : n ≡ length args + position (declared locals args used) id = some_same n (length args + position (declared locals args used) id) (sym e ∙ others locals args used f m id has) in
      is ∙ ap (λ (k : ℕ). length args + k) (sym (depth_is (declared locals args used) id)) ∙ sym (back args rest id none)
  behind_by id n false none has old e = old (sym (kept f 0 (args ++ rest) m id (neither args rest id none has)) ∙ e)

  place_by : (id n : ℕ) (b : Bool) → has_number args id ≡ b → (m f id ≡ Some n → n ≡ depth_of (args ++ rest) id) → with_numbers f 0 (args ++ rest) m f id ≡ Some n
      → n ≡ depth_of (args ++ rest) id
  place_by id n true has old e =
      some_same n (depth_of args id) (sym e ∙ first locals args used f m (depth_of args id) id once (stands args id has)) ∙ sym (front args rest id has)
  place_by id n false has old e = behind_by id n (has_number rest id) has refl old e

  pub places : HavePlaces (local_ids locals args used) (m f) → HavePlaces (local_ids locals args used) (with_numbers f 0 (local_ids locals args used) m f)
  places old id n e = place_by id n (has_number args id) refl (old id n) e

-- Numbers that are given in turn.
use Rattle.std.proofs.lemmas.List.{drop_more}
use Rattle.std.proofs.Common.{ℕ, zero, suc, ◌+◌, ◌<◌, ◌≡◌, Bool, true, false, List, [], ◌∷◌, ◌++◌, drop, get_or, length, Option, Some, None, refl, sym, ap, subst, ◌∙◌, arith}
use Rattle.std.specs.Prelude.{◌==◌, ◌||◌, slice_get}
use Rattle.std.specs.Cmp.{nat_eq_equiv}
use Rattle.std.proofs.lemmas.Bool.{eqb-true, eq-eqb, false≢true}
use Rattle.walrus_index_maps.specs.Maps.{Indices, with_local}
use Rattle.walrus_local_numbers.specs.Declared.{IsOfFunction, has_number, is_at, is_numbered, stands_at, with_numbers}

-- ---- other functions

abbrev pub Locals : Type 0
Locals = ℕ → ℕ → Option ℕ

other_function : (f g id n x : ℕ) (m : Locals) → (g ≡ f → ⊥) → with_local f x n m g id ≡ m g id
other_function f g id n x m differ = by (g == f) refl
  where
    by : (b : Bool) → (g == f) ≡ b → with_local f x n m g id ≡ m g id
    by true e = absurd (differ (eqb-true g f e))
    by false e = rw e refl

others_numbered : (f g id n : ℕ) (xs : List ℕ) (m : Locals) → (g ≡ f → ⊥) → with_numbers f n xs m g id ≡ m g id
others_numbered f g id n [] m differ = refl
others_numbered f g id n (x ∷ xs) m differ = others_numbered f g id (suc n) xs (with_local f x n m) differ ∙ other_function f g id n x m differ

pub others_on : (f : ℕ) (a b c : Indices) → IsOfFunction f a b → IsOfFunction f b c → IsOfFunction f a c
others_on f a b c h k = record {
  others = k.others ∙ ap (λ (m : Indices). record m { locals = c.locals }) h.others;
  locals = λ g differ id. k.locals g differ id ∙ h.locals g differ id;
}

pub others_step : (f id n : ℕ) (a b c : Indices) → IsOfFunction f a b → c ≡ record b { locals = with_local f id n b.locals } → IsOfFunction f a c
others_step f id n a b c h e =
    let now : c.locals ≡ with_local f id n b.locals = ap (λ (m : Indices). m.locals) e in
    others_on f a b c h (record {
      others = e ∙ ap (λ (z : Locals). record b { locals = z }) (sym now);
      locals = λ g differ x. (λ i. now i g x) ∙ other_function f g x n id b.locals differ;
    })

-- ---- all numbers

pub numbers_append : (f n : ℕ) (xs ys : List ℕ) (m : Locals) → with_numbers f n (xs ++ ys) m ≡ with_numbers f (n + length xs) ys (with_numbers f n xs m)
numbers_append f n [] ys m = let e : n ≡ n + 0 = omega arith in ap (λ (k : ℕ). with_numbers f k ys m) e
numbers_append f n (x ∷ xs) ys m =
    let e : suc n + length xs ≡ n + suc (length xs) = omega arith in
    numbers_append f (suc n) xs ys (with_local f x n m) ∙ ap (λ (k : ℕ). with_numbers f k ys (with_numbers f (suc n) xs (with_local f x n m))) e

-- one number more is given
pub number_step : (f first next index behind : ℕ) (xs : List ℕ) (i x : ℕ) (old mid new : Indices) → i < length xs → x ≡ get_or xs i x → index ≡ next → behind ≡ next + 1
    → new ≡ record mid { locals = with_local f x index mid.locals } → with_numbers f next (drop i xs) mid.locals ≡ with_numbers f first xs old.locals
    → with_numbers f behind (drop (i + 1) xs) new.locals ≡ with_numbers f first xs old.locals
number_step f first next index behind xs i x old mid new inside at is more set goes =
    let locals : new.locals ≡ with_local f x index mid.locals = ap (λ (m : Indices). m.locals) set in
    let left : drop i xs ≡ x ∷ drop (i + 1) xs = drop_more xs i x inside ∙ ap (λ (z : ℕ). z ∷ drop (i + 1) xs) (sym at) in
    let after : behind ≡ suc next = omega (arith, more) in
    ap (λ (k : ℕ). with_numbers f k (drop (i + 1) xs) new.locals) after ∙ ap (with_numbers f (suc next) (drop (i + 1) xs)) locals
    ∙ ap (λ (k : ℕ). with_numbers f (suc next) (drop (i + 1) xs) (with_local f x k mid.locals)) is ∙ ap (λ (z : List ℕ). with_numbers f next z mid.locals) (sym left) ∙ goes

pub numbers_on : (f n : ℕ) (xs ys : List ℕ) (a b c : Indices) → b ≡ record a { locals = with_numbers f 0 xs a.locals } → c ≡ record b { locals = with_numbers f n ys b.locals } → n ≡ length xs
    → c ≡ record a { locals = with_numbers f 0 (xs ++ ys) a.locals }
numbers_on f n xs ys a b c first second long =
    let at : n ≡ 0 + length xs = omega (arith, long) in
    second ∙ ap (λ (m : Indices). record m { locals = with_numbers f n ys m.locals }) first
    ∙ ap (λ (k : ℕ). record a { locals = with_numbers f k ys (with_numbers f 0 xs a.locals) }) at
    ∙ ap (λ (z : Locals). record a { locals = z }) (sym (numbers_append f 0 xs ys a.locals))

-- ---- arguments

pub or_false : (a b : Bool) → (a || b) ≡ false → (a ≡ false) × (b ≡ false)
or_false true b e = absurd (false≢true (sym e))
or_false false b e = (refl, e)

pub no_number : (f n id : ℕ) (xs : List ℕ) (m : Locals) → has_number xs id ≡ false → with_numbers f n xs m f id ≡ m f id
no_number f n id [] m e = refl
no_number f n id (x ∷ xs) m e =
    let parts = or_false (x == id) (has_number xs id) e in
    no_number f (suc n) id xs (with_local f x n m) parts.1 ∙ passed (nat_eq_equiv.symm id x ∙ parts.0)
  where
    passed : (id == x) ≡ false → with_local f x n m f id ≡ m f id
    passed d = rw (eq-eqb f f refl) (rw d refl)

-- a number was given, and there stands the id
pub record Given (f n id : ℕ) (xs : List ℕ) (m : Locals) : Type 0 where
  pub at : ℕ
  pub number : ℕ
  pub is : with_numbers f n xs m f id ≡ Some number
  pub from : number ≡ n + at
  pub stands : slice_get xs at ≡ Some id

given_first : (f n id x : ℕ) (xs : List ℕ) (m : Locals) → (x == id) ≡ true → has_number xs id ≡ false → Given f n id (x ∷ xs) m
given_first f n id x xs m d none = record {
  at = 0;
  number = n;
  is = no_number f (suc n) id xs (with_local f x n m) none ∙ set (nat_eq_equiv.symm id x ∙ d);
  from = omega arith;
  stands = ap Some (eqb-true x id d);
}
  where
    set : (id == x) ≡ true → with_local f x n m f id ≡ Some n
    set e = rw (eq-eqb f f refl) (rw e refl)

given_later : (f n id x : ℕ) (xs : List ℕ) (m : Locals) → Given f (suc n) id xs (with_local f x n m) → Given f n id (x ∷ xs) m
given_later f n id x xs m later =
    let l = later.from in
    record { at = suc later.at; number = later.number; is = later.is; from = omega (arith, l); stands = later.stands }

pub in_front : (a b : Bool) → b ≡ false → (a || b) ≡ true → a ≡ true
in_front true b e h = refl
in_front false b e h = absurd (false≢true (sym e ∙ h))

given_by : (f n id x : ℕ) (xs : List ℕ) (m : Locals) (b : Bool) → has_number xs id ≡ b → has_number (x ∷ xs) id ≡ true → (has_number xs id ≡ true → Given f (suc n) id xs (with_local f x n m)) → Given f n id (x ∷ xs) m
given_by f n id x xs m true e h later = given_later f n id x xs m (later e)
given_by f n id x xs m false e h later = given_first f n id x xs m (in_front (x == id) (has_number xs id) e h) e

pub given : (f n id : ℕ) (xs : List ℕ) (m : Locals) → has_number xs id ≡ true → Given f n id xs m
given f n id [] m e = absurd (false≢true e)
given f n id (x ∷ xs) m e = given_by f n id x xs m (has_number xs id) refl e (given f (suc n) id xs (with_local f x n m))

absent : (xs : List ℕ) (n id other : ℕ) → slice_get xs n ≡ Some other → has_number xs id ≡ false → (other == id) ≡ false
absent [] n id other e h = absurd (none e)
  where
    none : None ≡ Some other → ⊥
    none e = cc
absent (x ∷ xs) zero id other e h = subst (λ (z : ℕ). (z == id) ≡ false) (only e) (or_false (x == id) (has_number xs id) h).0
  where
    only : Some x ≡ Some other → x ≡ other
    only e = cc
absent (x ∷ xs) (suc n) id other e h = absent xs n id other e (or_false (x == id) (has_number xs id) h).1

astray : (args : List ℕ) (o : Option ℕ) (id : ℕ) → has_number args id ≡ false → stands_at args o id ≡ false
astray args None id h = refl
astray args (Some n) id h = by (slice_get args n) refl
  where
    by : (o : Option ℕ) → slice_get args n ≡ o → is_at (slice_get args n) id ≡ false
    by None e = rw e refl
    by (Some other) e = rw e (absent args n id other e h)

pub args_numbered : (args : List ℕ) (f : ℕ) (old m : Indices) → m ≡ record old { locals = with_numbers f 0 args old.locals } → (id : ℕ) → is_numbered args m f id ≡ has_number args id
args_numbered args f old m e id = ap (λ (z : Indices). stands_at args (z.locals f id) id) e ∙ by (has_number args id) refl
  where
    found : Given f 0 id args old.locals → stands_at args (with_numbers f 0 args old.locals f id) id ≡ true
    found g =
        let from = g.from in
        let at : g.number ≡ g.at = omega (arith, from) in
        ap (λ (o : Option ℕ). stands_at args o id) g.is ∙ ap (λ (j : ℕ). is_at (slice_get args j) id) at ∙ ap (λ (o : Option ℕ). is_at o id) g.stands ∙ eq-eqb id id refl

    by : (b : Bool) → has_number args id ≡ b → stands_at args (with_numbers f 0 args old.locals f id) id ≡ has_number args id
    by true h = found (given f 0 id args old.locals h) ∙ sym h
    by false h = ap (λ (o : Option ℕ). stands_at args o id) (no_number f 0 id args old.locals h) ∙ astray args (old.locals f id) id h ∙ sym h

pub tests_same : (args : List ℕ) (f : ℕ) (old m : Indices) → m ≡ record old { locals = with_numbers f 0 args old.locals } → is_numbered args m f ≡ has_number args
tests_same args f old m e = λ i id. args_numbered args f old m e id i

-- An index over lends, deletes and adds.
use Rattle.std.proofs.Common.{◌≡◌, ◌∙◌, ℕ, ◌<◌, ◌≤◌, ◌==◌, ◌||◌, ◌&&◌, Bool, true, false, cond, not, zero, suc, List, [], ◌∷◌, length, filter, find, slice_index_or, Option, Some, None, inl, inr, refl, sym, ap, subst, arith, Ordering, Less, Equal, Greater, eq-eqb}
use Rattle.std.specs.Ordering.{ordering_then, ordering_reverse, nat_cmp, is_gt, is_lt, is_eq, MatchOrdering}
use Rattle.std.specs.Prelude.{is_some}
use Rattle.std.specs.Option.{option_map, option_map_or}
use Rattle.std.specs.List.{AllByRecursion, list_any}
use Rattle.std.specs.List.Sorted.{IsStrictlySortedBy}
use Rattle.std.specs.Cmp.{tied_back, ranks}
use Rattle.std.proofs.lemmas.Bool.{cases_Bool, false≢true, eqb-true}
use Rattle.std.proofs.lemmas.List.Kept.{IsStrictlySortedBy-filter}
use Rattle.walrus_items.specs.walrus_forms.Kinds.{Kind}
use Rattle.walrus_type_index.specs.Places.{Hashed, place_of, place_at, place_cmp, hashed_at, hashed_cmp, is_exactly, is_before, last_in, last_of, put_in, entered}
use Rattle.walrus_type_index.specs.Hashes.{hash_of, hash_at}
use Rattle.walrus_type_index.specs.Ordered.{has, lives_at, IsIndex, IsOrdered, IsLast}
use Rattle.walrus_type_index.proofs.KindTotal.{hashed_ids, spot_cmp, spots}
use Rattle.walrus_type_index.proofs.TreeLemmas.{Sorted, all-map, ids-tied, spot, exact-wanted}

or-swap : (a b c : Bool) → (a || (b || c)) ≡ (b || (a || c))
or-swap true true c = refl
or-swap true false c = refl
or-swap false true c = refl
or-swap false false c = refl

put-has-step : (b : Bool) (y : ℕ) (new x : Hashed) (xs ps : List Hashed) → has y ps ≡ ((new.id == y) || has y xs)
    → has y (cond b (new ∷ x ∷ xs) (x ∷ ps)) ≡ ((new.id == y) || ((x.id == y) || has y xs))
put-has-step true y new x xs ps e = refl
put-has-step false y new x xs ps e = ap (λ (b : Bool). (x.id == y) || b) e ∙ or-swap (x.id == y) (new.id == y) (has y xs)

put-has : (test : Hashed → Bool) (y : ℕ) (new : Hashed) (xs : List Hashed) → has y (put_in test new xs) ≡ ((new.id == y) || has y xs)
put-has test y new [] = refl
put-has test y new (x ∷ xs) = put-has-step (test x) y new x xs (put_in test new xs) (put-has test y new xs)

-- the ids that pass are left
none-passes : (b : Bool) → false ≡ (b && false)
none-passes true = refl
none-passes false = refl

passes-here : (b : Bool) → b ≡ true → (c : Bool) → true ≡ (b && (true || c))
passes-here b e c = sym (ap (λ (x : Bool). x && true) e)

fails-here : (b : Bool) → b ≡ false → (c : Bool) → (b && c) ≡ (b && (true || c))
fails-here b e c = ap (λ (x : Bool). x && c) e ∙ sym (ap (λ (x : Bool). x && true) e)

filter-passes : (p : ℕ → Bool) (y : ℕ) (xs : List Hashed) → has y (filter (λ x. p x.id) xs) ≡ (p y && has y xs)
filter-passes p y [] = none-passes (p y)
filter-passes p y (x ∷ xs) = elim (cases_Bool (p x.id)) as (λ _. has y (cond (p x.id) (x ∷ filter (λ z. p z.id) xs) (filter (λ z. p z.id) xs)) ≡ (p y && ((x.id == y) || has y xs))) [
  | inl passes ↦ ap (λ (b : Bool). has y (cond b (x ∷ filter (λ z. p z.id) xs) (filter (λ z. p z.id) xs))) passes
      ∙ elim (cases_Bool (x.id == y)) as (λ _. ((x.id == y) || has y (filter (λ z. p z.id) xs)) ≡ (p y && ((x.id == y) || has y xs))) [
        | inl same ↦
            let here : p y ≡ true = ap p (sym (eqb-true x.id y same)) ∙ passes in
            ap (λ (b : Bool). b || has y (filter (λ z. p z.id) xs)) same ∙ passes-here (p y) here (has y xs) ∙ ap (λ (b : Bool). p y && (b || has y xs)) (sym same)
        | inr other ↦ ap (λ (b : Bool). b || has y (filter (λ z. p z.id) xs)) other ∙ filter-passes p y xs ∙ ap (λ (b : Bool). p y && (b || has y xs)) (sym other)
      ]
  | inr fails ↦ ap (λ (b : Bool). has y (cond b (x ∷ filter (λ z. p z.id) xs) (filter (λ z. p z.id) xs))) fails ∙ filter-passes p y xs
      ∙ elim (cases_Bool (x.id == y)) as (λ _. (p y && has y xs) ≡ (p y && ((x.id == y) || has y xs))) [
        | inl same ↦
            let here : p y ≡ false = ap p (sym (eqb-true x.id y same)) ∙ fails in
            fails-here (p y) here (has y xs) ∙ ap (λ (b : Bool). p y && (b || has y xs)) (sym same)
        | inr other ↦ ap (λ (b : Bool). p y && (b || has y xs)) (sym other)
      ]
]

eq-turned : (a b : ℕ) → (a == b) ≡ (b == a)
eq-turned a b = Rattle.std.specs.Cmp.both_ways (a == b) (b == a) (λ e. eq-eqb b a (sym (eqb-true a b e))) (λ e. eq-eqb a b (sym (eqb-true b a e)))

filter-has : (y id : ℕ) (xs : List Hashed) → has y (filter (λ x. not (x.id == id)) xs) ≡ (not (id == y) && has y xs)
filter-has y id xs = filter-passes (λ z. not (z == id)) y xs ∙ ap (λ (b : Bool). not b && has y xs) (eq-turned y id)

-- putting keeps the order
pub all-put : (P : Hashed → Type 0) (test : Hashed → Bool) (new : Hashed) (xs : List Hashed) → P new → AllByRecursion P xs → AllByRecursion P (put_in test new xs)
all-put P test new [] p a = (p, tt)
all-put P test new (x ∷ xs) p a =
    elim (cases_Bool (test x)) as (λ _. AllByRecursion P (cond (test x) (new ∷ x ∷ xs) (x ∷ put_in test new xs))) [
      | inl hit ↦ subst (λ (b : Bool). AllByRecursion P (cond b (new ∷ x ∷ xs) (x ∷ put_in test new xs))) (sym hit) (p, a)
      | inr other ↦ subst (λ (b : Bool). AllByRecursion P (cond b (new ∷ x ∷ xs) (x ∷ put_in test new xs))) (sym other) (a.0, all-put P test new xs p a.1)
    ]

pub all-filter : (P : Hashed → Type 0) (p : Hashed → Bool) (xs : List Hashed) → AllByRecursion P xs → AllByRecursion P (filter p xs)
all-filter P p [] a = tt
all-filter P p (x ∷ xs) a =
    elim (cases_Bool (p x)) as (λ _. AllByRecursion P (cond (p x) (x ∷ filter p xs) (filter p xs))) [
      | inl passes ↦ subst (λ (b : Bool). AllByRecursion P (cond b (x ∷ filter p xs) (filter p xs))) (sym passes) (a.0, all-filter P p xs a.1)
      | inr fails ↦ subst (λ (b : Bool). AllByRecursion P (cond b (x ∷ filter p xs) (filter p xs))) (sym fails) (all-filter P p xs a.1)
    ]

or-parts : (a b : Bool) → (a || b) ≡ false → (a ≡ false) × (b ≡ false)
or-parts true b e = absurd (false≢true (sym e))
or-parts false b e = (refl, e)

less-is : (o : Ordering) → is_lt o ≡ true → o ≡ Less
less-is Less e = refl
less-is Equal e = absurd (false≢true e)
less-is Greater e = absurd (false≢true e)

third : (o : Ordering) → is_lt o ≡ false → (o ≡ Equal → ⊥) → o ≡ Greater
third Less e f = absurd (false≢true (sym e))
third Equal e f = absurd (f refl)
third Greater e f = refl

sorted-put : (ks : List (Option Kind)) (new : Hashed) (xs : List Hashed) → Sorted ks xs → has new.id xs ≡ false → Sorted ks (put_in (is_before ks new) new xs)
unfolding IsStrictlySortedBy
sorted-put ks new [] s out = (tt, tt)
sorted-put ks new (x ∷ xs) s out =
    let c = hashed_cmp ks in
    elim (cases_Bool (is_before ks new x)) as (λ _. Sorted ks (cond (is_before ks new x) (new ∷ x ∷ xs) (x ∷ put_in (is_before ks new) new xs))) [
      | inl hit ↦
          let less : c new x ≡ Less = less-is (c new x) hit in
          subst (λ (b : Bool). Sorted ks (cond b (new ∷ x ∷ xs) (x ∷ put_in (is_before ks new) new xs))) (sym hit)
          ((less, all-map (λ y. c x y ≡ Less) (λ y. c new y ≡ Less) (λ y up. (hashed_ids ks).trans new x y less up) xs s.0), s)
      | inr past ↦
          let parts = or-parts (x.id == new.id) (has new.id xs) out in
          let more : c new x ≡ Greater = third (c new x) past (λ e. false≢true (sym parts.0 ∙ eq-eqb x.id new.id (sym (ids-tied ks new x e)))) in
          let less : c x new ≡ Less = (hashed_ids ks).antisymm x new ∙ ap ordering_reverse more in
          subst (λ (b : Bool). Sorted ks (cond b (new ∷ x ∷ xs) (x ∷ put_in (is_before ks new) new xs))) (sym past)
          (all-put (λ y. c x y ≡ Less) (is_before ks new) new xs less s.0, sorted-put ks new xs s.1 parts.1)
    ]

abbrev Right : List (Option Kind) → Hashed → Type 0
Right ks x = x.hash ≡ hash_at ks x.id

index-put : (ks : List (Option Kind)) (id : ℕ) (xs : List Hashed) → IsIndex ks xs → has id xs ≡ false → IsIndex ks (entered ks id xs)
index-put ks id xs i out = record {
  sorted = sorted-put ks (hashed_at ks id) xs i.sorted out;
  hashed = all-put (Right ks) (is_before ks (hashed_at ks id)) (hashed_at ks id) xs refl i.hashed;
}

index-filter : (ks : List (Option Kind)) (p : Hashed → Bool) (xs : List Hashed) → IsIndex ks xs → IsIndex ks (filter p xs)
index-filter ks p xs i = record {
  sorted = IsStrictlySortedBy-filter (hashed_cmp ks) p xs i.sorted;
  hashed = all-filter (Right ks) p xs i.hashed;
}

or-right : (a b : Bool) → b ≡ true → (a || b) ≡ true
or-right true b e = refl
or-right false b e = e

-- the order turns on what the listed ids have
cmp-same : (ks ls : List (Option Kind)) (x y : Hashed) → slice_index_or ks x.id None ≡ slice_index_or ls x.id None → slice_index_or ks y.id None ≡ slice_index_or ls y.id None
    → hashed_cmp ks x y ≡ hashed_cmp ls x y
cmp-same ks ls x y here there = ap (ordering_then (nat_cmp x.hash y.hash))
    (ap (λ (k : Option Kind). ordering_then (place_cmp (place_of x.id k) (place_at ks y.id)) (nat_cmp x.id y.id)) here
    ∙ ap (λ (k : Option Kind). ordering_then (place_cmp (place_at ls x.id) (place_of y.id k)) (nat_cmp x.id y.id)) there)

first-listed : (x : Hashed) (xs : List Hashed) → has x.id (x ∷ xs) ≡ true
first-listed x xs = ap (λ (b : Bool). b || has x.id xs) (eq-eqb x.id x.id refl)

-- the kinds agree where the list has ids
abbrev Agree : List (Option Kind) → List (Option Kind) → List Hashed → Type 0
Agree ks ls xs = (y : ℕ) → has y xs ≡ true → slice_index_or ks y None ≡ slice_index_or ls y None

agree-behind : (ks ls : List (Option Kind)) (x : Hashed) (xs : List Hashed) → Agree ks ls (x ∷ xs) → Agree ks ls xs
agree-behind ks ls x xs same = λ z e. same z (or-right (x.id == z) (has z xs) e)

all-same : (ks ls : List (Option Kind)) (x : Hashed) (xs : List Hashed) → slice_index_or ks x.id None ≡ slice_index_or ls x.id None → Agree ks ls xs
    → AllByRecursion (λ y. hashed_cmp ks x y ≡ Less) xs → AllByRecursion (λ y. hashed_cmp ls x y ≡ Less) xs
all-same ks ls x [] here same a = tt
all-same ks ls x (y ∷ ys) here same a = (sym (cmp-same ks ls x y here (same y.id (first-listed y ys))) ∙ a.0, all-same ks ls x ys here (agree-behind ks ls y ys same) a.1)

sorted-same : (ks ls : List (Option Kind)) (xs : List Hashed) → Agree ks ls xs → Sorted ks xs → Sorted ls xs
unfolding IsStrictlySortedBy
sorted-same ks ls [] same s = tt
sorted-same ks ls (x ∷ xs) same s = (all-same ks ls x xs (same x.id (first-listed x xs)) (agree-behind ks ls x xs same) s.0, sorted-same ks ls xs (agree-behind ks ls x xs same) s.1)

right-same : (ks ls : List (Option Kind)) (xs : List Hashed) → Agree ks ls xs → AllByRecursion (Right ks) xs → AllByRecursion (Right ls) xs
right-same ks ls [] same a = tt
right-same ks ls (x ∷ xs) same a =
    (a.0 ∙ ap (λ (k : Option Kind). option_map_or hash_of k 0) (same x.id (first-listed x xs)), right-same ks ls xs (agree-behind ks ls x xs same) a.1)

index-same : (ks ls : List (Option Kind)) (xs : List Hashed) → Agree ks ls xs → IsIndex ks xs → IsIndex ls xs
index-same ks ls xs same i = record { sorted = sorted-same ks ls xs same i.sorted; hashed = right-same ks ls xs same i.hashed }

-- the lent type is put back
settled : (lives : Bool) (eq : Bool) → (eq ≡ true → lives ≡ true) → (eq || (lives && not eq)) ≡ (lives && not false)
settled lives true e = sym (ap (λ (b : Bool). b && true) (e refl))
settled true false e = refl
settled false false e = refl

not-self : (b : Bool) → (b && not true) ≡ false
not-self true = refl
not-self false = refl

-- a lent id isn't in
pub lent-out : (id : ℕ) (index : List Hashed) (ks : List (Option Kind)) → IsOrdered (Some id) index ks → has id index ≡ false
lent-out id index ks o = o.listed id ∙ ap (λ (b : Bool). lives_at ks id && not b) (eq-eqb id id refl) ∙ not-self (lives_at ks id)

-- what lives has a number
pub lives-below : (id : ℕ) (ks : List (Option Kind)) → lives_at ks id ≡ true → id < length ks
lives-below id [] e = absurd (false≢true e)
lives-below zero (k ∷ ks) e = omega arith
lives-below (suc id) (k ∷ ks) e = let h = lives-below id ks e in omega (arith, h)

pub ordered-settled : (id : ℕ) (index : List Hashed) (ks : List (Option Kind)) → IsOrdered (Some id) index ks
    → IsOrdered None (entered ks id index) ks
ordered-settled id index ks o = record {
  sorted = index-put ks id index o.sorted (lent-out id index ks o);
  listed = λ y. put-has (is_before ks (hashed_at ks id)) y (hashed_at ks id) index ∙ ap (λ (b : Bool). (id == y) || b) (o.listed y)
      ∙ settled (lives_at ks y) (id == y) (λ e. ap (λ (k : ℕ). lives_at ks k) (sym (eqb-true id y e)) ∙ o.lent_lives id refl);
  lent_lives = λ y e. absurd cc;
}

-- a live type is lent
lending : (a b : Bool) → (not a && (b && not false)) ≡ (b && not a)
lending true true = refl
lending true false = refl
lending false true = refl
lending false false = refl

pub ordered-taken : (id : ℕ) (index : List Hashed) (ks : List (Option Kind)) → IsOrdered None index ks → lives_at ks id ≡ true
    → IsOrdered (Some id) (filter (λ x. not (x.id == id)) index) ks
ordered-taken id index ks o live = record {
  sorted = index-filter ks (λ x. not (x.id == id)) index o.sorted;
  listed = λ y. filter-has y id index ∙ ap (λ (b : Bool). not (id == y) && b) (o.listed y) ∙ lending (id == y) (lives_at ks y);
  lent_lives = λ y e. ap (lives_at ks) (let same : y ≡ id = cc in same) ∙ live;
}

-- the lent type changes in any way, and stays
listed-apart : (id y : ℕ) (index : List Hashed) (ks : List (Option Kind)) → IsOrdered (Some id) index ks → has y index ≡ true → (id == y) ≡ false
listed-apart id y index ks o e = elim (cases_Bool (id == y)) as (λ _. (id == y) ≡ false) [
  | inl this ↦ absurd (false≢true (sym (not-self (lives_at ks y)) ∙ ap (λ (b : Bool). lives_at ks y && not b) (sym this) ∙ sym (o.listed y) ∙ e))
  | inr other ↦ other
]

pub ordered-written : (id : ℕ) (index : List Hashed) (ks ls : List (Option Kind)) → IsOrdered (Some id) index ks
    → ((y : ℕ) → (id == y) ≡ false → slice_index_or ks y None ≡ slice_index_or ls y None) → lives_at ls id ≡ true → IsOrdered (Some id) index ls
ordered-written id index ks ls o same live = record {
  sorted = index-same ks ls index (λ y e. same y (listed-apart id y index ks o e)) o.sorted;
  listed = λ y. elim (cases_Bool (id == y)) as (λ _. has y index ≡ (lives_at ls y && not (id == y))) [
    | inl this ↦
        let now : lives_at ls y ≡ true = ap (lives_at ls) (sym (eqb-true id y this)) ∙ live in
        let before : lives_at ks y ≡ true = ap (lives_at ks) (sym (eqb-true id y this)) ∙ o.lent_lives id refl in
        o.listed y ∙ ap (λ (b : Bool). b && not (id == y)) (before ∙ sym now)
    | inr other ↦ o.listed y ∙ ap (λ (k : Option Kind). is_some k && not (id == y)) (same y other)
  ];
  lent_lives = λ y e. ap (lives_at ls) (let it : y ≡ id = cc in it) ∙ live;
}

-- a type that is out of the index dies
pub ordered-dead : (id : ℕ) (index : List Hashed) (ks ls : List (Option Kind)) → IsOrdered (Some id) index ks
    → ((y : ℕ) → (id == y) ≡ false → slice_index_or ks y None ≡ slice_index_or ls y None) → lives_at ls id ≡ false → IsOrdered None index ls
ordered-dead id index ks ls o same dead = record {
  sorted = index-same ks ls index (λ y e. same y (listed-apart id y index ks o e)) o.sorted;
  listed = λ y. elim (cases_Bool (id == y)) as (λ _. has y index ≡ (lives_at ls y && not false)) [
    | inl this ↦
        let now : lives_at ls y ≡ false = ap (lives_at ls) (sym (eqb-true id y this)) ∙ dead in
        o.listed y ∙ ap (λ (b : Bool). lives_at ks y && not b) this ∙ not-self (lives_at ks y) ∙ sym (ap (λ (b : Bool). b && true) now)
    | inr other ↦ o.listed y ∙ ap (λ (b : Bool). lives_at ks y && not b) other ∙ ap (λ (k : Option Kind). is_some k && true) (same y other)
  ];
  lent_lives = λ y e. absurd cc;
}

kept-both : (a b : Bool) → (not a && b) ≡ true → a ≡ false
kept-both true b e = absurd (false≢true e)
kept-both false b e = refl

still-there : (dies : Bool) (before now : Option Kind) → now ≡ cond dies None before → (not dies && (is_some before && true)) ≡ (is_some now && true)
still-there true before now e = sym (ap (λ (k : Option Kind). is_some k && true) e)
still-there false before now e = sym (ap (λ (k : Option Kind). is_some k && true) e)

-- types die, and are taken out of the index behind that
pub ordered-swept : (dies : ℕ → Bool) (index : List Hashed) (ks ls : List (Option Kind)) → IsOrdered None index ks
    → ((y : ℕ) → slice_index_or ls y None ≡ cond (dies y) None (slice_index_or ks y None)) → IsOrdered None (filter (λ x. not (dies x.id)) index) ls
ordered-swept dies index ks ls o same = record {
  sorted = index-same ks ls (filter (λ x. not (dies x.id)) index)
      (λ y e. sym (same y ∙ ap (λ (b : Bool). cond b None (slice_index_or ks y None)) (kept-both (dies y) (has y index) (sym (filter-passes (λ z. not (dies z)) y index) ∙ e))))
      (index-filter ks (λ x. not (dies x.id)) index o.sorted);
  listed = λ y. filter-passes (λ z. not (dies z)) y index ∙ ap (λ (b : Bool). not (dies y) && b) (o.listed y)
      ∙ still-there (dies y) (slice_index_or ks y None) (slice_index_or ls y None) (same y);
  lent_lives = λ y e. absurd cc;
}

listed-old : (id y : ℕ) (index : List Hashed) (ks : List (Option Kind)) → IsOrdered None index ks → lives_at ks id ≡ false → has y index ≡ true → (id == y) ≡ false
listed-old id y index ks o fresh e = elim (cases_Bool (id == y)) as (λ _. (id == y) ≡ false) [
  | inl this ↦ absurd (false≢true (sym (ap (λ (b : Bool). b && true) (ap (lives_at ks) (sym (eqb-true id y this)) ∙ fresh)) ∙ sym (o.listed y) ∙ e))
  | inr other ↦ other
]

-- a new type is as one that was lent
pub ordered-new : (id : ℕ) (index : List Hashed) (ks ls : List (Option Kind)) → IsOrdered None index ks → lives_at ks id ≡ false
    → ((y : ℕ) → (id == y) ≡ false → slice_index_or ks y None ≡ slice_index_or ls y None) → lives_at ls id ≡ true → IsOrdered (Some id) index ls
ordered-new id index ks ls o fresh same live = record {
  sorted = index-same ks ls index (λ y e. same y (listed-old id y index ks o fresh e)) o.sorted;
  listed = λ y. elim (cases_Bool (id == y)) as (λ _. has y index ≡ (lives_at ls y && not (id == y))) [
    | inl this ↦
        let before : lives_at ks y ≡ false = ap (lives_at ks) (sym (eqb-true id y this)) ∙ fresh in
        o.listed y ∙ ap (λ (b : Bool). b && true) before ∙ sym (ap (λ (b : Bool). lives_at ls y && not b) this ∙ not-self (lives_at ls y))
    | inr other ↦ o.listed y ∙ ap (λ (k : Option Kind). is_some k && true) (same y other) ∙ ap (λ (b : Bool). lives_at ls y && not b) (sym other)
  ];
  lent_lives = λ y e. ap (lives_at ls) (let it : y ≡ id = cc in it) ∙ live;
}

either-way : (a b : Bool) (P : Type 0) → (a || b) ≡ true → (a ≡ true → P) → (b ≡ true → P) → P
either-way true b P e f g = f refl
either-way false b P e f g = g e

or-false : (a : Bool) → a ≡ (a || false)
or-false true = refl
or-false false = refl

then-both : (o p q : Ordering) → ordering_then o p ≡ Equal → ordering_then o (ordering_then p q) ≡ q
then-both Less p q e = absurd (false≢true (ap is_eq e))
then-both Equal p q e = ap (λ (r : Ordering). ordering_then r q) e
then-both Greater p q e = absurd (false≢true (ap is_eq e))

-- of one kind, they stand by number
rises : (ks : List (Option Kind)) (kind : Kind) (own : Bool) (x y : Hashed) → Right ks x → Right ks y → hashed_cmp ks x y ≡ Less → is_exactly ks kind own x.id ≡ true
    → is_exactly ks kind own y.id ≡ true → x.id < y.id
rises ks kind own x y right left less hit more =
    let z : ℕ × (Option Kind × Bool) = (hash_of kind, (Some kind, own)) in
    let tied : spot_cmp (spot ks x) (spot ks y) ≡ Equal =
    spots.congr (spot ks x) z (spot ks y) (exact-wanted ks kind own x right hit) ∙ tied_back spots (spot ks y) z (exact-wanted ks kind own y left more) in
    let numbers : nat_cmp x.id y.id ≡ Less = sym (then-both (nat_cmp x.hash y.hash) (place_cmp (place_at ks x.id) (place_at ks y.id)) (nat_cmp x.id y.id) tied) ∙ less in
    subst (λ (o : Ordering). MatchOrdering o (x.id < y.id) (x.id ≡ y.id) (y.id < x.id)) numbers (ranks x.id y.id)

-- what is found along a list that starts at or behind what was found
last-some : (ks : List (Option Kind)) (kind : Kind) (own : Bool) (x : Hashed) (xs : List Hashed) → Sorted ks (x ∷ xs) → AllByRecursion (Right ks) (x ∷ xs)
    → is_exactly ks kind own x.id ≡ true → (id : ℕ) → last_in (λ z. is_exactly ks kind own z.id) (Some x.id) xs ≡ Some id → IsLast ks kind own (x ∷ xs) id
unfolding IsStrictlySortedBy
last-some ks kind own x [] s right hit id is =
    let same : x.id ≡ id = cc in
    record {
      is = ap (is_exactly ks kind own) (sym same) ∙ hit;
      in_it = ap (λ (b : Bool). b || false) (eq-eqb x.id id same);
      latest = λ y e f. let it : x.id ≡ y = eqb-true x.id y (or-false (x.id == y) ∙ e) in omega (arith, it, same);
    }
last-some ks kind own x (y ∷ ys) s right hit id is =
    elim (cases_Bool (is_exactly ks kind own y.id)) as (λ _. IsLast ks kind own (x ∷ y ∷ ys) id) [
      | inl more ↦
          let rest = last-some ks kind own y ys s.1 right.1 more id (ap (λ (b : Bool). last_in (λ z. is_exactly ks kind own z.id) (cond b (Some y.id) (Some x.id)) ys) (sym more) ∙ is) in
          let up : x.id < y.id = rises ks kind own x y right.0 right.1.0 s.0.0 hit more in
          record {
            is = rest.is;
            in_it = or-right (x.id == id) (has id (y ∷ ys)) rest.in_it;
            latest = λ z e f. either-way (x.id == z) (has z (y ∷ ys)) (z ≤ id) e
                (λ this. let it : x.id ≡ z = eqb-true x.id z this in let h : y.id ≤ id = rest.latest y.id (first-listed y ys) more in omega (arith, it, up, h))
                (λ later. rest.latest z later f);
          }
      | inr no_it ↦
          let rest = last-some ks kind own x ys (s.0.1, s.1.1) (right.0, right.1.1) hit id (ap (λ (b : Bool). last_in (λ z. is_exactly ks kind own z.id) (cond b (Some y.id) (Some x.id)) ys) (sym no_it) ∙ is) in
          record {
            is = rest.is;
            in_it = either-way (x.id == id) (has id ys) (has id (x ∷ y ∷ ys) ≡ true) rest.in_it
                (λ this. ap (λ (b : Bool). b || has id (y ∷ ys)) this) (λ later. or-right (x.id == id) (has id (y ∷ ys)) (or-right (y.id == id) (has id ys) later));
            latest = λ z e f. either-way (x.id == z) (has z (y ∷ ys)) (z ≤ id) e
                (λ this. rest.latest z (ap (λ (b : Bool). b || has z ys) this) f)
                (λ later. either-way (y.id == z) (has z ys) (z ≤ id) later
                (λ this. absurd (false≢true (sym (ap (is_exactly ks kind own) (sym (eqb-true y.id z this)) ∙ no_it) ∙ f)))
                (λ far. rest.latest z (or-right (x.id == z) (has z ys) far) f));
          }
    ]

pub last-law : (ks : List (Option Kind)) (kind : Kind) (own : Bool) (xs : List Hashed) → IsIndex ks xs
    → (id : ℕ) → last_of ks kind own xs ≡ Some id → IsLast ks kind own xs id
unfolding IsStrictlySortedBy
last-law ks kind own [] i id is = absurd cc
last-law ks kind own (x ∷ xs) i id is =
    elim (cases_Bool (is_exactly ks kind own x.id)) as (λ _. IsLast ks kind own (x ∷ xs) id) [
      | inl hit ↦ last-some ks kind own x xs i.sorted i.hashed hit id (ap (λ (b : Bool). last_in (λ z. is_exactly ks kind own z.id) (cond b (Some x.id) None) xs) (sym hit) ∙ is)
      | inr no_it ↦
          let rest = last-law ks kind own xs (record { sorted = i.sorted.1; hashed = i.hashed.1 }) id (ap (λ (b : Bool). last_in (λ z. is_exactly ks kind own z.id) (cond b (Some x.id) None) xs) (sym no_it) ∙ is) in
          record {
            is = rest.is;
            in_it = or-right (x.id == id) (has id xs) rest.in_it;
            latest = λ z e f. either-way (x.id == z) (has z xs) (z ≤ id) e
                (λ this. absurd (false≢true (sym (ap (is_exactly ks kind own) (sym (eqb-true x.id z this)) ∙ no_it) ∙ f)))
                (λ later. rest.latest z later f);
          }
    ]

find-has : (id : ℕ) (xs : List Hashed) → has id xs ≡ true → option_map (λ (x : Hashed). x.id) (find (λ x. x.id == id) xs) ≡ Some id
find-has id [] e = absurd (false≢true e)
find-has id (x ∷ xs) e = elim (cases_Bool (x.id == id)) as (λ _. option_map (λ (z : Hashed). z.id) (cond (x.id == id) (Some x) (find (λ y. y.id == id) xs)) ≡ Some id) [
  | inl same ↦ ap (λ (b : Bool). option_map (λ (z : Hashed). z.id) (cond b (Some x) (find (λ y. y.id == id) xs))) same ∙ ap (λ (k : ℕ). Some k) (eqb-true x.id id same)
  | inr other ↦ ap (λ (b : Bool). option_map (λ (z : Hashed). z.id) (cond b (Some x) (find (λ y. y.id == id) xs))) other ∙ find-has id xs (ap (λ (b : Bool). b || has id xs) (sym other) ∙ e)
]

pub live-found : (id : ℕ) (index : List Hashed) (ks : List (Option Kind)) → IsOrdered None index ks → lives_at ks id ≡ true
    → option_map (λ (x : Hashed). x.id) (find (λ x. x.id == id) index) ≡ Some id
live-found id index ks o live = find-has id index (o.listed id ∙ ap (λ (b : Bool). b && true) live)

-- no types
pub ordered-none : IsOrdered None [] []
unfolding IsStrictlySortedBy
ordered-none = record { sorted = record { sorted = tt; hashed = tt }; listed = λ id. refl; lent_lives = λ id e. absurd cc }

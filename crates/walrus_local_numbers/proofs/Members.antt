-- Keys of locals in their order.
use Rattle.std.proofs.Common.{ℕ, zero, suc, ◌+◌, ◌≡◌, ◌⊎◌, inl, inr, Bool, true, false, List, [], ◌∷◌, ◌++◌, Contains, Option, Some, None, Ordering, Less, Equal, Greater, cond, refl, sym, ap, subst, ◌∙◌, arith}
use Rattle.std.specs.Prelude.{◌==◌, ◌&&◌, ◌||◌, not, slice_get, if◌then◌else◌}
use Rattle.std.specs.Option.{option_map}
use Rattle.std.specs.Ordering.{is_lt, ordering_reverse}
use Rattle.std.specs.List.{AllByRecursion, filter}
use Rattle.std.specs.List.Sorted.{IsStrictlySortedBy}
use Rattle.std.proofs.lemmas.Bool.{and_parts, eqb-true, eq-eqb, false≢true}
use Rattle.std.proofs.lemmas.Option.{slice_get-map}
use Rattle.walrus_forms.specs.declared.value.ValType.{ValType}
use Rattle.walrus_items.specs.declared.local.Local.{Local}
use Rattle.wasm_normal_form.specs.Locals.{Key, in_order, insert_key, is_less, key_cmp, numbered}
use Rattle.walrus_local_numbers.specs.Declared.{AreKeys, declared, found_keys, has_number, key_at, key_in, types_of}
use Rattle.walrus_local_numbers.proofs.Orders.{key_total, numbers_of_tied}

-- ---- members

abbrev pub In : Key → List Key → Type 0
In k [] = ⊥
In k (j ∷ js) = (j ≡ k) ⊎ In k js

in_of : (ks : List Key) (k : Key) → Contains ks k → In k ks
in_of [] k (i, below, is) = absurd (omega (arith, below))
in_of (j ∷ ks) k (zero, below, is) = inl is
in_of (j ∷ ks) k (suc i, below, is) = inr (in_of ks k (i, omega (arith, below), is))

of_in : (ks : List Key) (k : Key) → In k ks → Contains ks k
of_in [] k h = absurd h
of_in (j ∷ ks) k (inl e) = (0, omega arith, e)
of_in (j ∷ ks) k (inr h) = let c = of_in ks k h in (suc c.0, omega (arith, c.1), c.2)

in_append : (k : Key) (xs ys : List Key) → In k (xs ++ ys) → In k xs ⊎ In k ys
in_append k [] ys h = inr h
in_append k (x ∷ xs) ys (inl e) = inl (inl e)
in_append k (x ∷ xs) ys (inr h) = elim (in_append k xs ys h) as (λ _. In k (x ∷ xs) ⊎ In k ys) [ inl i ↦ inl (inr i) | inr i ↦ inr i ]

append_left : (k : Key) (xs ys : List Key) → In k xs → In k (xs ++ ys)
append_left k [] ys h = absurd h
append_left k (x ∷ xs) ys (inl e) = inl e
append_left k (x ∷ xs) ys (inr h) = inr (append_left k xs ys h)

append_right : (k : Key) (xs ys : List Key) → In k ys → In k (xs ++ ys)
append_right k [] ys h = h
append_right k (x ∷ xs) ys h = inr (append_right k xs ys h)

-- ---- lists in order

-- each is below those behind it
abbrev pub Rising : List Key → Type 0
Rising [] = Unit {0}
Rising (x ∷ xs) = ((y : Key) → In y xs → key_cmp x y ≡ Less) × Rising xs

below_of : (x : Key) (xs : List Key) → AllByRecursion (λ (y : Key). key_cmp x y ≡ Less) xs → (y : Key) → In y xs → key_cmp x y ≡ Less
below_of x [] h y i = absurd i
below_of x (z ∷ zs) h y (inl e) = subst (λ (w : Key). key_cmp x w ≡ Less) e h.0
below_of x (z ∷ zs) h y (inr i) = below_of x zs h.1 y i

rising_of : (ks : List Key) → IsStrictlySortedBy key_cmp ks → Rising ks
unfolding IsStrictlySortedBy
rising_of [] h = tt
rising_of (x ∷ xs) h = (below_of x xs h.0, rising_of xs h.1)

pub apart : (x y : Key) → key_cmp x y ≡ Less → key_cmp y x ≡ Less → ⊥
apart x y a b = let e : Less ≡ Greater = sym a ∙ key_total.antisymm x y ∙ ap ordering_reverse b in absurd (false≢true (sym (ap is_lt e)))

heads : (x : Key) (xs : List Key) (y : Key) (ys : List Key) → Rising (x ∷ xs) → Rising (y ∷ ys) → In x (y ∷ ys) → In y (x ∷ xs) → x ≡ y
heads x xs y ys a b (inl e) j = sym e
heads x xs y ys a b (inr i) (inl e) = e
heads x xs y ys a b (inr i) (inr j) = absurd (apart x y (a.0 y j) (b.0 x i))

tails : (x : Key) (xs : List Key) (y : Key) (ys : List Key) → x ≡ y → Rising (x ∷ xs) → ((k : Key) → In k (x ∷ xs) → In k (y ∷ ys)) → (k : Key) → In k xs → In k ys
tails x xs y ys e a f k i = elim (f k (inr i)) as (λ _. In k ys) [
  | inl d ↦ let l : key_cmp k k ≡ Less = subst (λ (z : Key). key_cmp z k ≡ Less) (e ∙ d) (a.0 k i) in absurd (apart k k l l)
  | inr j ↦ j
]

-- rising lists of the same keys are one
one_list : (xs ys : List Key) → Rising xs → Rising ys → ((k : Key) → In k xs → In k ys) → ((k : Key) → In k ys → In k xs) → xs ≡ ys
one_list [] [] a b f g = refl
one_list [] (y ∷ ys) a b f g = absurd (g y (inl refl))
one_list (x ∷ xs) [] a b f g = absurd (f x (inl refl))
one_list (x ∷ xs) (y ∷ ys) a b f g =
    let e = heads x xs y ys a b (f x (inl refl)) (g y (inl refl)) in
    ap (λ (k : Key). k ∷ xs) e ∙ ap (λ (ks : List Key). y ∷ ks) (one_list xs ys a.1 b.1 (tails x xs y ys e a f) (tails y ys x xs (sym e) b g))

-- ---- keys are put in order

split_insert : (j k x : Key) (xs : List Key) (b : Bool) → (In k (insert_key j xs) → (j ≡ k) ⊎ In k xs) → In k (if b then x ∷ insert_key j xs else j ∷ (x ∷ xs)) → (j ≡ k) ⊎ In k (x ∷ xs)
split_insert j k x xs true rest (inl e) = inr (inl e)
split_insert j k x xs true rest (inr i) = elim (rest i) as (λ _. (j ≡ k) ⊎ In k (x ∷ xs)) [ inl e ↦ inl e | inr h ↦ inr (inr h) ]
split_insert j k x xs false rest h = h

in_insert : (j k : Key) (ks : List Key) → In k (insert_key j ks) → (j ≡ k) ⊎ In k ks
in_insert j k [] h = h
in_insert j k (x ∷ xs) h = split_insert j k x xs (is_less (key_cmp x j)) (in_insert j k xs) h

join_insert : (j k x : Key) (xs : List Key) (b : Bool) → ((j ≡ k) ⊎ In k xs → In k (insert_key j xs)) → (j ≡ k) ⊎ In k (x ∷ xs) → In k (if b then x ∷ insert_key j xs else j ∷ (x ∷ xs))
join_insert j k x xs true rest (inl e) = inr (rest (inl e))
join_insert j k x xs true rest (inr (inl e)) = inl e
join_insert j k x xs true rest (inr (inr i)) = inr (rest (inr i))
join_insert j k x xs false rest h = h

insert_in : (j k : Key) (ks : List Key) → (j ≡ k) ⊎ In k ks → In k (insert_key j ks)
insert_in j k [] h = h
insert_in j k (x ∷ xs) h = join_insert j k x xs (is_less (key_cmp x j)) (insert_in j k xs) h

less_is : (o : Ordering) → is_less o ≡ true → o ≡ Less
less_is Less e = refl
less_is Equal e = absurd (false≢true e)
less_is Greater e = absurd (false≢true e)

turned : (j x : Key) (o : Ordering) → key_cmp x j ≡ o → is_less o ≡ false → (x.1 ≡ j.1 → ⊥) → ordering_reverse o ≡ Less
turned j x Less e l d = absurd (false≢true (sym l))
turned j x Equal e l d = absurd (d (numbers_of_tied x j e))
turned j x Greater e l d = refl

placed : (j x : Key) (xs : List Key) (b : Bool) → is_less (key_cmp x j) ≡ b → Rising (x ∷ xs) → (x.1 ≡ j.1 → ⊥) → Rising (insert_key j xs) → Rising (if b then x ∷ insert_key j xs else j ∷ (x ∷ xs))
placed j x xs true e r d rest = ((λ y i. under y (in_insert j y xs i)), rest)
  where
    under : (y : Key) → (j ≡ y) ⊎ In y xs → key_cmp x y ≡ Less
    under y (inl q) = subst (λ (z : Key). key_cmp x z ≡ Less) q (less_is (key_cmp x j) e)
    under y (inr i) = r.0 y i
placed j x xs false e r d rest = (above (key_total.antisymm j x ∙ turned j x (key_cmp x j) refl e d), r)
  where
    above : key_cmp j x ≡ Less → (y : Key) → (x ≡ y) ⊎ In y xs → key_cmp j y ≡ Less
    above first y (inl q) = subst (λ (z : Key). key_cmp j z ≡ Less) q first
    above first y (inr i) = key_total.trans j x y first (r.0 y i)

rising_insert : (j : Key) (ks : List Key) → Rising ks → ((y : Key) → In y ks → y.1 ≡ j.1 → ⊥) → Rising (insert_key j ks)
rising_insert j [] r d = ((λ y i. absurd i), tt)
rising_insert j (x ∷ xs) r d = placed j x xs (is_less (key_cmp x j)) refl r (d x (inl refl)) (rising_insert j xs r.1 (λ y i. d y (inr i)))

of_order : (k : Key) (ks : List Key) → In k (in_order ks) → In k ks
of_order k [] h = h
of_order k (x ∷ xs) h = elim (in_insert x k (in_order xs) h) as (λ _. In k (x ∷ xs)) [ inl e ↦ inl e | inr i ↦ inr (of_order k xs i) ]

to_order : (k : Key) (ks : List Key) → In k ks → In k (in_order ks)
to_order k [] h = h
to_order k (x ∷ xs) (inl e) = insert_in x k (in_order xs) (inl e)
to_order k (x ∷ xs) (inr i) = insert_in x k (in_order xs) (inr (to_order k xs i))

-- no number stands twice
abbrev Distinct : List Key → Type 0
Distinct [] = Unit {0}
Distinct (x ∷ xs) = ((y : Key) → In y xs → y.1 ≡ x.1 → ⊥) × Distinct xs

order_rises : (ks : List Key) → Distinct ks → Rising (in_order ks)
order_rises [] d = tt
order_rises (x ∷ xs) d = rising_insert x (in_order xs) (order_rises xs d.1) (λ y i. d.0 y (of_order y xs i))

-- ---- some of them

module _ (p : Key → Bool) where
  kept : (k x : Key) (xs : List Key) (b : Bool) → p x ≡ b → (In k (filter p xs) → (p k ≡ true) × In k xs) → In k (cond b (x ∷ filter p xs) (filter p xs)) → (p k ≡ true) × In k (x ∷ xs)
  kept k x xs true e rest (inl q) = (subst (λ (z : Key). p z ≡ true) q e, inl q)
  kept k x xs true e rest (inr i) = let r = rest i in (r.0, inr r.1)
  kept k x xs false e rest i = let r = rest i in (r.0, inr r.1)

  in_filter : (k : Key) (ks : List Key) → In k (filter p ks) → (p k ≡ true) × In k ks
  in_filter k [] h = absurd h
  in_filter k (x ∷ xs) h = kept k x xs (p x) refl (in_filter k xs) h

  passes : (k x : Key) (xs : List Key) (b : Bool) → In k (filter p xs) → In k (cond b (x ∷ filter p xs) (filter p xs))
  passes k x xs true i = inr i
  passes k x xs false i = i

  filter_in : (k : Key) (ks : List Key) → p k ≡ true → In k ks → In k (filter p ks)
  filter_in k [] h i = absurd i
  filter_in k (x ∷ xs) h (inl q) =
      let e : p x ≡ true = ap p q ∙ h in
      subst (λ (b : Bool). In k (cond b (x ∷ filter p xs) (filter p xs))) (sym e) (inl q)
  filter_in k (x ∷ xs) h (inr i) = passes k x xs (p x) (filter_in k xs h i)

  stays : (x : Key) (xs : List Key) (b : Bool) → Distinct (x ∷ xs) → Distinct (filter p xs) → Distinct (cond b (x ∷ filter p xs) (filter p xs))
  stays x xs true d rest = ((λ y i. d.0 y (in_filter y xs i).1), rest)
  stays x xs false d rest = rest

  distinct_filter : (ks : List Key) → Distinct ks → Distinct (filter p ks)
  distinct_filter [] d = tt
  distinct_filter (x ∷ xs) d = stays x xs (p x) d (distinct_filter xs d.1)

-- ---- all locals

in_numbered : (n : ℕ) (tys : List ValType) (k : Key) → In k (numbered n tys) → (i : ℕ) × (k.1 ≡ n + i) × (slice_get tys i ≡ Some k.0)
in_numbered n [] k h = absurd h
in_numbered n (ty ∷ tys) k (inl e) = let at : k.1 ≡ n = ap (λ (z : Key). z.1) (sym e) in (0, omega (arith, at), ap (λ (z : Key). Some z.0) e)
in_numbered n (ty ∷ tys) k (inr h) = let r = in_numbered (suc n) tys k h in (suc r.0, omega (arith, r.1), r.2)

numbered_in : (n : ℕ) (tys : List ValType) (i : ℕ) (ty : ValType) → slice_get tys i ≡ Some ty → In (ty, n + i) (numbered n tys)
numbered_in n [] i ty e = absurd (none e)
  where
    none : None ≡ Some ty → ⊥
    none e = cc
numbered_in n (t ∷ tys) zero ty e = let at : n ≡ n + 0 = omega arith in inl (λ i. (only e i, at i))
  where
    only : Some t ≡ Some ty → t ≡ ty
    only e = cc
numbered_in n (t ∷ tys) (suc i) ty e =
    let at : suc n + i ≡ n + suc i = omega arith in
    inr (subst (λ (m : ℕ). In (ty, m) (numbered (suc n) tys)) at (numbered_in (suc n) tys i ty e))

distinct_numbered : (n : ℕ) (tys : List ValType) → Distinct (numbered n tys)
distinct_numbered n [] = tt
distinct_numbered n (ty ∷ tys) = ((λ y i e. let r = in_numbered (suc n) tys y i in let at = r.1 in absurd (omega (arith, at, e))), distinct_numbered (suc n) tys)

-- ---- those that are found

module _ (locals : List Local) (is_arg : ℕ → Bool) where
  -- it is used and no argument, and has this type
  record IsFound (used : List ℕ) (k : Key) : Type 0 where
    is_used : has_number used k.1 ≡ true
    free : is_arg k.1 ≡ false
    known : slice_get (types_of locals) k.1 ≡ Some k.0

  type_at : (k : Key) (id : ℕ) (o : Option Local) → slice_get locals id ≡ o → In k (key_in o id) → (id ≡ k.1) × (slice_get (types_of locals) id ≡ Some k.0)
  type_at k id None e h = absurd h
  type_at k id (Some l) e (inl q) =
      (ap (λ (z : Key). z.1) q, slice_get-map (λ (l : Local). l.ty) locals id ∙ ap (option_map (λ (l : Local). l.ty)) e ∙ ap (λ (z : Key). Some z.0) q)
  type_at k id (Some l) e (inr h) = absurd h

  free_at : (k : Key) (id : ℕ) (b : Bool) → is_arg id ≡ b → In k (key_at locals b id) → (is_arg id ≡ false) × (id ≡ k.1) × (slice_get (types_of locals) id ≡ Some k.0)
  free_at k id true e h = absurd h
  free_at k id false e h = let t = type_at k id (slice_get locals id) refl h in (e, t.0, t.1)

  here : (k : Key) (id : ℕ) (ids : List ℕ) → (is_arg id ≡ false) × (id ≡ k.1) × (slice_get (types_of locals) id ≡ Some k.0) → IsFound (id ∷ ids) k
  here k id ids h = record {
    is_used = ap (λ (b : Bool). b || has_number ids k.1) (eq-eqb id k.1 h.1);
    free = ap is_arg (sym h.1) ∙ h.0;
    known = ap (slice_get (types_of locals)) (sym h.1) ∙ h.2;
  }

  or_true : (b : Bool) → (b || true) ≡ true
  or_true true = refl
  or_true false = refl

  later : (k : Key) (id : ℕ) (ids : List ℕ) → IsFound ids k → IsFound (id ∷ ids) k
  later k id ids h = record { is_used = ap (λ (b : Bool). (id == k.1) || b) h.is_used ∙ or_true (id == k.1); free = h.free; known = h.known }

  in_found : (k : Key) (used : List ℕ) → In k (found_keys locals is_arg used) → IsFound used k
  in_found k [] h = absurd h
  in_found k (id ∷ ids) h = elim (in_append k (key_at locals (is_arg id) id) (found_keys locals is_arg ids) h) as (λ _. IsFound (id ∷ ids) k) [
    | inl i ↦ here k id ids (free_at k id (is_arg id) refl i)
    | inr i ↦ later k id ids (in_found k ids i)
  ]

  at_key : (k : Key) (o : Option Local) → slice_get locals k.1 ≡ o → option_map (λ (l : Local). l.ty) o ≡ Some k.0 → In k (key_in o k.1)
  at_key k None e h = absurd (none h)
    where
      none : None ≡ Some k.0 → ⊥
      none e = cc
  at_key k (Some l) e h = inl (ap (λ (z : ValType). let q : Key = (z, k.1) in q) (only h))
    where
      only : Some l.ty ≡ Some k.0 → l.ty ≡ k.0
      only e = cc

  stands : (k : Key) (used : List ℕ) → IsFound used k → In k (key_at locals (is_arg k.1) k.1)
  stands k used h =
      subst (λ (b : Bool). In k (key_at locals b k.1)) (sym h.free) (at_key k (slice_get locals k.1) refl (sym (slice_get-map (λ (l : Local). l.ty) locals k.1) ∙ h.known))

  found_in : (k : Key) (used : List ℕ) → IsFound used k → In k (found_keys locals is_arg used)
  found_in k [] h = absurd (false≢true h.is_used)
  found_in k (id ∷ ids) h = by (id == k.1) refl (found_in k ids)
    where
      by : (b : Bool) → (id == k.1) ≡ b → (IsFound ids k → In k (found_keys locals is_arg ids)) → In k (found_keys locals is_arg (id ∷ ids))
      by true e more =
          append_left k (key_at locals (is_arg id) id) (found_keys locals is_arg ids)
          (subst (λ (n : ℕ). In k (key_at locals (is_arg n) n)) (sym (eqb-true id k.1 e)) (stands k (id ∷ ids) h))
      by false e more =
          let in_rest : has_number ids k.1 ≡ true = sym (ap (λ (b : Bool). b || has_number ids k.1) e) ∙ h.is_used in
          append_right k (key_at locals (is_arg id) id) (found_keys locals is_arg ids) (more (record { is_used = in_rest; free = h.free; known = h.known }))

pub not_true : (b : Bool) → not b ≡ true → b ≡ false
not_true true e = absurd (false≢true e)
not_true false e = refl

pub declared_rises : (locals : List Local) (args used : List ℕ) → Rising (declared locals args used)
declared_rises locals args used = order_rises (filter test all) (distinct_filter test all (distinct_numbered 0 (types_of locals)))
  where
    all : List Key
    all = numbered 0 (types_of locals)

    test : Key → Bool
    test k = has_number used k.1 && not (has_number args k.1)

-- what is declared is no argument, and has this type
pub in_declared : (locals : List Local) (args used : List ℕ) (k : Key) → In k (declared locals args used) → (has_number args k.1 ≡ false) × (slice_get (types_of locals) k.1 ≡ Some k.0)
in_declared locals args used k i =
    let passed = in_filter test k (numbered 0 (types_of locals)) (of_order k (filter test (numbered 0 (types_of locals))) i) in
    let parts = and_parts (has_number used k.1) (not (has_number args k.1)) passed.0 in
    let at = in_numbered 0 (types_of locals) k passed.1 in
    let from = at.1 in
    let same : at.0 ≡ k.1 = omega (arith, from) in
    (not_true (has_number args k.1) parts.1, ap (slice_get (types_of locals)) (sym same) ∙ at.2)
  where
    test : Key → Bool
    test k = has_number used k.1 && not (has_number args k.1)

-- what was found and put in order is what is declared
pub declared_is : (locals : List Local) (args used : List ℕ) (found keys : List Key) → found ≡ found_keys locals (has_number args) used → AreKeys found keys → keys ≡ declared locals args used
declared_is locals args used found keys is h =
    let all = numbered 0 (types_of locals) in
    one_list keys (declared locals args used) (rising_of keys h.rising) (order_rises (filter test all) (distinct_filter test all (distinct_numbered 0 (types_of locals)))) forth back
  where
    test : Key → Bool
    test k = has_number used k.1 && not (has_number args k.1)

    among : (k : Key) → slice_get (types_of locals) k.1 ≡ Some k.0 → In k (numbered 0 (types_of locals))
    among k e =
        let at : 0 + k.1 ≡ k.1 = omega arith in
        subst (λ (n : ℕ). In (k.0, n) (numbered 0 (types_of locals))) at (numbered_in 0 (types_of locals) k.1 k.0 e)

    tested : (k : Key) → IsFound locals (has_number args) used k → test k ≡ true
    tested k f = λ i. f.is_used i && not (f.free i)

    forth : (k : Key) → In k keys → In k (declared locals args used)
    forth k i =
        let f = in_found locals (has_number args) k used (subst (In k) is (in_of found k ((h.members k).0 (of_in keys k i)))) in
        to_order k (filter test (numbered 0 (types_of locals))) (filter_in test k (numbered 0 (types_of locals)) (tested k f) (among k f.known))

    back : (k : Key) → In k (declared locals args used) → In k keys
    back k i =
        let passed = in_filter test k (numbered 0 (types_of locals)) (of_order k (filter test (numbered 0 (types_of locals))) i) in
        let parts = and_parts (has_number used k.1) (not (has_number args k.1)) passed.0 in
        let at = in_numbered 0 (types_of locals) k passed.1 in
        let from = at.1 in
        let same : at.0 ≡ k.1 = omega (arith, from) in
        let f : IsFound locals (has_number args) used k = record { is_used = parts.0; free = not_true (has_number args k.1) parts.1; known = ap (slice_get (types_of locals)) (sym same) ∙ at.2 } in
        in_of keys k ((h.members k).1 (of_in found k (subst (In k) (sym is) (found_in locals (has_number args) k used f))))

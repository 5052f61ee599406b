-- Numbers of keys, and the positions of keys among others.
use Rattle.std.proofs.Common.{ℕ, zero, suc, ◌+◌, ◌≤◌, ◌≡◌, ◌⊎◌, inl, inr, Bool, true, false, List, [], ◌∷◌, length, cond, refl, sym, ap, subst, ◌∙◌, arith}
use Rattle.std.specs.Prelude.{◌==◌, nat_lt, if◌then◌else◌}
use Rattle.std.specs.List.{filter}
use Rattle.std.proofs.lemmas.Bool.{eq-eqb, le-ltb, ne_eqb}
use Rattle.walrus_forms.specs.declared.value.ValType.{ValType}
use Rattle.wasm_normal_form.specs.Locals.{Key, in_order, insert_key, is_less, key_cmp, numbered, position}
use Rattle.wasm_normal_laws.proofs.Orders.{types}

abbrev pub In : Key → List Key → Type 0
In k [] = ⊥
In k (j ∷ js) = (j ≡ k) ⊎ In k js

-- no number stands twice
abbrev pub Distinct : List Key → Type 0
Distinct [] = Unit {0}
Distinct (x ∷ xs) = ((y : Key) → In y xs → y.1 ≡ x.1 → ⊥) × Distinct xs

-- ---- keys are put in order

in_insert : (j k : Key) (ks : List Key) → In k (insert_key j ks) → (j ≡ k) ⊎ In k ks
in_insert j k [] h = h
in_insert j k (x ∷ xs) h = by (is_less (key_cmp x j)) (in_insert j k xs) h
  where
    by : (b : Bool) → (In k (insert_key j xs) → (j ≡ k) ⊎ In k xs) → In k (if b then x ∷ insert_key j xs else j ∷ (x ∷ xs)) → (j ≡ k) ⊎ In k (x ∷ xs)
    by true rest (inl e) = inr (inl e)
    by true rest (inr i) = elim (rest i) as (λ _. (j ≡ k) ⊎ In k (x ∷ xs)) [ inl e ↦ inl e | inr m ↦ inr (inr m) ]
    by false rest m = m

pub of_order : (k : Key) (ks : List Key) → In k (in_order ks) → In k ks
of_order k [] h = h
of_order k (x ∷ xs) h = elim (in_insert x k (in_order xs) h) as (λ _. In k (x ∷ xs)) [ inl e ↦ inl e | inr i ↦ inr (of_order k xs i) ]

distinct_insert : (j : Key) (ks : List Key) → ((y : Key) → In y ks → y.1 ≡ j.1 → ⊥) → Distinct ks → Distinct (insert_key j ks)
distinct_insert j [] new d = ((λ y i e. i), tt)
distinct_insert j (x ∷ xs) new d = by (is_less (key_cmp x j)) (distinct_insert j xs (λ y i. new y (inr i)) d.1)
  where
    other : (y : Key) → (j ≡ y) ⊎ In y xs → y.1 ≡ x.1 → ⊥
    other y (inl q) e = new x (inl refl) (sym e ∙ ap (λ (k : Key). k.1) (sym q))
    other y (inr i) e = d.0 y i e

    by : (b : Bool) → Distinct (insert_key j xs) → Distinct (if b then x ∷ insert_key j xs else j ∷ (x ∷ xs))
    by true rest = ((λ y i. other y (in_insert j y xs i)), rest)
    by false rest = (new, d)

pub distinct_order : (ks : List Key) → Distinct ks → Distinct (in_order ks)
distinct_order [] d = tt
distinct_order (x ∷ xs) d = distinct_insert x (in_order xs) (λ y i. d.0 y (of_order y xs i)) (distinct_order xs d.1)

-- ---- some of them

module _ (p : Key → Bool) where
  pub in_filter : (k : Key) (ks : List Key) → In k (filter p ks) → (p k ≡ true) × In k ks
  in_filter k [] h = absurd h
  in_filter k (x ∷ xs) h = by (p x) refl (in_filter k xs) h
    where
      by : (b : Bool) → p x ≡ b → (In k (filter p xs) → (p k ≡ true) × In k xs) → In k (cond b (x ∷ filter p xs) (filter p xs)) → (p k ≡ true) × In k (x ∷ xs)
      by true e rest (inl q) = (subst (λ (z : Key). p z ≡ true) q e, inl q)
      by true e rest (inr i) = let r = rest i in (r.0, inr r.1)
      by false e rest i = let r = rest i in (r.0, inr r.1)

  pub distinct_filter : (ks : List Key) → Distinct ks → Distinct (filter p ks)
  distinct_filter [] d = tt
  distinct_filter (x ∷ xs) d = by (p x) (distinct_filter xs d.1)
    where
      by : (b : Bool) → Distinct (filter p xs) → Distinct (cond b (x ∷ filter p xs) (filter p xs))
      by true rest = ((λ y i. d.0 y (in_filter y xs i).1), rest)
      by false rest = rest

-- ---- numbered ones

pub in_numbered : (n : ℕ) (tys : List ValType) (k : Key) → In k (numbered n tys) → n ≤ k.1
in_numbered n [] k h = absurd h
in_numbered n (ty ∷ tys) k (inl e) = let at : k.1 ≡ n = ap (λ (z : Key). z.1) (sym e) in omega (arith, at)
in_numbered n (ty ∷ tys) k (inr h) = let r = in_numbered (suc n) tys k h in omega (arith, r)

pub distinct_numbered : (n : ℕ) (tys : List ValType) → Distinct (numbered n tys)
distinct_numbered n [] = tt
distinct_numbered n (ty ∷ tys) = ((λ y i e. let r = in_numbered (suc n) tys y i in absurd (omega (arith, r, e))), distinct_numbered (suc n) tys)

pub types_numbered : (n : ℕ) (tys : List ValType) → types (numbered n tys) ≡ tys
types_numbered n [] = refl
types_numbered n (ty ∷ tys) = ap (λ (z : List ValType). ty ∷ z) (types_numbered (suc n) tys)

-- ---- positions

pub position_small : (ks : List Key) (n : ℕ) → position ks n ≤ length ks
position_small [] n = omega arith
position_small (k ∷ ks) n = by (k.1 == n) (position_small ks n)
  where
    by : (b : Bool) → position ks n ≤ length ks → (if b then 0 else suc (position ks n)) ≤ suc (length ks)
    by true h = omega arith
    by false h = omega (arith, h)

-- the number behind so many has that position
pub position_at : (n : ℕ) (tys : List ValType) (p : ℕ) → p ≤ length tys → position (numbered n tys) (n + p) ≡ p
position_at n [] p h = let small = h in omega (arith, small)
position_at n (ty ∷ tys) zero h = let at : n ≡ n + 0 = omega arith in rw (eq-eqb n (n + 0) at) refl
position_at n (ty ∷ tys) (suc p) h =
    let small : p ≤ length tys = omega (arith, h) in
    let at : n + suc p ≡ suc n + p = omega arith in
    rw (ne_eqb n (n + suc p) (λ e. omega (arith, e))) (ap (λ (m : ℕ). suc (position (numbered (suc n) tys) m)) at ∙ ap suc (position_at (suc n) tys p small))

pub not_below : (params p : ℕ) → nat_lt (params + p) params ≡ false
not_below params p = let le : params ≤ params + p = omega arith in le-ltb (params + p) params le

-- what holds of the numbers of all positions lets all numbered ones pass
pub all_pass : (q : ℕ → Bool) (n : ℕ) (ks : List Key) → Distinct ks → ((k : Key) → In k ks → q (n + position ks k.1) ≡ true) → filter (λ (k : Key). q k.1) (numbered n (types ks)) ≡ numbered n (types ks)
all_pass q n [] d h = refl
all_pass q n (k ∷ ks) d h = rw first (ap (λ (z : List Key). (k.0, n) ∷ z) (all_pass q (suc n) ks d.1 rest))
  where
    here : position (k ∷ ks) k.1 ≡ 0
    here = rw (eq-eqb k.1 k.1 refl) refl

    first : q n ≡ true
    first = let at : n ≡ n + 0 = omega arith in ap q at ∙ ap (λ (p : ℕ). q (n + p)) (sym here) ∙ h k (inl refl)

    later : (j : Key) → In j ks → position (k ∷ ks) j.1 ≡ suc (position ks j.1)
    later j i = rw (ne_eqb k.1 j.1 (λ e. d.0 j i (sym e))) refl

    rest : (j : Key) → In j ks → q (suc n + position ks j.1) ≡ true
    rest j i =
        let at : suc n + position ks j.1 ≡ n + suc (position ks j.1) = omega arith in
        ap q at ∙ ap (λ (p : ℕ). q (n + p)) (sym (later j i)) ∙ h j (inr i)

-- Ranks never fall where kinds rise.
use Rattle.std.proofs.Common.{◌≡◌, ◌∙◌, ℕ, ◌+◌, ◌*◌, ◌/◌, ◌^◌, ◌<◌, ◌≤◌, ◌⊎◌, ◌==◌, Bool, true, false, List, [], ◌∷◌, length, get_or, drop, refl, sym, ap, subst, inl, inr, arith}
use Rattle.std.specs.Prelude.{if◌then◌else◌}
use Rattle.std.specs.declared.cmp.Ordering.{Ordering}
use Rattle.std.specs.declared.cmp.Ordering.TheVariants.{Less, Equal, Greater}
use Rattle.std.specs.Ordering.{ordering_then, nat_cmp, MatchOrdering}
use Rattle.std.specs.Cmp.{nat_cmp_is}
use Rattle.std.specs.Cmp.Lexicographic.{slice_cmp}
use Rattle.std.proofs.Math.Nat.{mul-le-mul_left}
use Rattle.std.proofs.lemmas.Bool.{cases_lt}
use Rattle.std.proofs.lemmas.List.{drop_more}
use Rattle.walrus_type_index.specs.walrus_items.walrus_forms.declared.value.ValType.{ValType}
use Rattle.walrus_type_index.specs.walrus_items.walrus_forms.declared.value.ValType.TheVariants.{I32, I64, F32, F64, V128, Ref}
use Rattle.walrus_type_index.specs.walrus_items.walrus_forms.contracts.value.ValTypeOrd.TheImpl.{ghosts as value_ord}
use Rattle.walrus_type_index.specs.walrus_items.walrus_forms.ValueOrder.{value_place, value_cmp}
use Rattle.walrus_type_index.proofs.walrus_forms.PlaceLemmas.{value-places}
use Rattle.walrus_type_index.specs.walrus_items.walrus_forms.Forms.{Form, FunctionForm, StructForm, ArrayForm}
use Rattle.walrus_type_index.specs.walrus_items.walrus_forms.Kinds.{Kind}
use Rattle.walrus_type_index.specs.walrus_items.walrus_forms.Order.{form_cmp, kind_cmp}
use Rattle.walrus_type_arenas.specs.Ranks.{digit, next_weight, digits, form_rank}

-- numbers that don't tell against this order
abbrev Follows : Ordering → ℕ → ℕ → Type 0
Follows o m n = MatchOrdering o (m ≤ n) (m ≡ n) (n ≤ m)

alike-follow : (o : Ordering) (m n : ℕ) → m ≡ n → Follows o m n
alike-follow Less m n e = omega (arith, e)
alike-follow Equal m n e = e
alike-follow Greater m n e = omega (arith, e)

-- an order that begins with this one
follow-then : (o p : Ordering) (m n : ℕ) → Follows o m n → Follows (ordering_then o p) m n
follow-then Less p m n is = is
follow-then Equal p m n is = alike-follow p m n is
follow-then Greater p m n is = is

-- they may be compared first
follow-first : (o : Ordering) (m n : ℕ) → Follows o m n → ordering_then (nat_cmp m n) o ≡ o
follow-first o m n is = elim (cases_lt m n) as (λ _. ordering_then (nat_cmp m n) o ≡ o) [
  | inl below ↦ ap (λ (p : Ordering). ordering_then p o) (sym (nat_cmp_is m n Less below)) ∙ less-then o m n below is
  | inr from ↦ elim (cases_lt n m) as (λ _. ordering_then (nat_cmp m n) o ≡ o) [
    | inl above ↦ ap (λ (p : Ordering). ordering_then p o) (sym (nat_cmp_is m n Greater above)) ∙ greater-then o m n above is
    | inr upto ↦ ap (λ (p : Ordering). ordering_then p o) (sym (nat_cmp_is m n Equal (omega arith)))
  ]
]
  where
    less-then : (o : Ordering) (m n : ℕ) → m < n → Follows o m n → Less ≡ o
    less-then Less m n below is = refl
    less-then Equal m n below is = absurd (omega (arith, is))
    less-then Greater m n below is = absurd (omega (arith, is))

    greater-then : (o : Ordering) (m n : ℕ) → n < m → Follows o m n → Greater ≡ o
    greater-then Less m n above is = absurd (omega (arith, is))
    greater-then Equal m n above is = absurd (omega (arith, is))
    greater-then Greater m n above is = refl

eighth : (b : Bool) (weight : ℕ) → 8 * (if b then 0 else weight / 8) ≤ weight
eighth true weight = omega arith
eighth false weight = omega arith

digit-le : (value : ValType) → digit value ≤ 6
digit-le I32 = omega arith
digit-le I64 = omega arith
digit-le F32 = omega arith
digit-le F64 = omega arith
digit-le V128 = omega arith
digit-le (Ref ty) = omega arith

digits-le : (values : List ValType) (weight : ℕ) → digits values weight ≤ 7 * weight
digits-le [] weight = omega arith
digits-le (value ∷ values) weight =
    let next = next_weight (digit value) weight in
    let small : 8 * next ≤ weight = eighth (digit value == 6) weight in
    let first : weight * digit value ≤ weight * 6 = mul-le-mul_left weight (digit-le value) in
    let rest : digits values next ≤ 7 * next = digits-le values next in
    omega arith

-- value types are ordered by their places, but for two references
by-places : (a b : ValType) → (value_ord.cmp a b ≡ nat_cmp (value_place a) (value_place b)) ⊎ ((value_place a ≡ 5) × (value_place b ≡ 5))
by-places a b = known a b (value-places a b)
  where
    known : (a b : ValType) → value_ord.cmp a b ≡ value_cmp a b → (value_ord.cmp a b ≡ nat_cmp (value_place a) (value_place b)) ⊎ ((value_place a ≡ 5) × (value_place b ≡ 5))
    known (Ref a) (Ref b) e = inr (refl, refl)
    known a b e = inl e

shift-follow : (o : Ordering) (m n r q : ℕ) → m ≡ n → Follows o r q → Follows o (m + r) (n + q)
shift-follow Less m n r q e is = omega (arith, e, is)
shift-follow Equal m n r q e is = omega (arith, e, is)
shift-follow Greater m n r q e is = omega (arith, e, is)

-- the digits of two first value types, by the places of these, before two numbers
module _ (weight x y r q : ℕ) (o p : Ordering) (r-small : r ≤ 7 * next_weight (x + 1) weight) (q-small : q ≤ 7 * next_weight (y + 1) weight) (rest : x ≡ y → Follows o r q) where
  references : x ≡ 5 → y ≡ 5 → Follows (ordering_then p o) (weight * (x + 1) + r) (weight * (y + 1) + q)
  references at-x at-y =
      let first : weight * (x + 1) ≡ weight * (y + 1) = ap (λ n. weight * (n + 1)) (at-x ∙ sym at-y) in
      let no-r : 7 * next_weight (x + 1) weight ≡ 0 = ap (λ n. 7 * next_weight (n + 1) weight) at-x in
      let no-q : 7 * next_weight (y + 1) weight ≡ 0 = ap (λ n. 7 * next_weight (n + 1) weight) at-y in
      alike-follow (ordering_then p o) _ _ (omega (arith, r-small, q-small))

  numbers : p ≡ nat_cmp x y → Follows (ordering_then p o) (weight * (x + 1) + r) (weight * (y + 1) + q)
  numbers is =
      let x-eighth : 8 * next_weight (x + 1) weight ≤ weight = eighth (x + 1 == 6) weight in
      let y-eighth : 8 * next_weight (y + 1) weight ≤ weight = eighth (y + 1 == 6) weight in
      elim (cases_lt x y) as (λ _. Follows (ordering_then p o) (weight * (x + 1) + r) (weight * (y + 1) + q)) [
        | inl below ↦
            let up : weight * (x + 2) ≤ weight * (y + 1) = mul-le-mul_left weight (omega (arith, below)) in
            subst (λ (c : Ordering). Follows (ordering_then c o) (weight * (x + 1) + r) (weight * (y + 1) + q)) (nat_cmp_is x y Less below ∙ sym is) (omega (arith, r-small))
        | inr from ↦ elim (cases_lt y x) as (λ _. Follows (ordering_then p o) (weight * (x + 1) + r) (weight * (y + 1) + q)) [
          | inl above ↦
              let up : weight * (y + 2) ≤ weight * (x + 1) = mul-le-mul_left weight (omega (arith, above)) in
              subst (λ (c : Ordering). Follows (ordering_then c o) (weight * (x + 1) + r) (weight * (y + 1) + q)) (nat_cmp_is x y Greater above ∙ sym is) (omega (arith, q-small))
          | inr upto ↦
              let same : x ≡ y = omega arith in
              subst (λ (c : Ordering). Follows (ordering_then c o) (weight * (x + 1) + r) (weight * (y + 1) + q)) (nat_cmp_is x y Equal same ∙ sym is)
              (shift-follow o (weight * (x + 1)) (weight * (y + 1)) r q (ap (λ n. weight * (n + 1)) same) (rest same))
        ]
      ]

  digit-follow : (p ≡ nat_cmp x y) ⊎ ((x ≡ 5) × (y ≡ 5)) → Follows (ordering_then p o) (weight * (x + 1) + r) (weight * (y + 1) + q)
  digit-follow (inl is) = numbers is
  digit-follow (inr both) = references both.0 both.1

lists-follow : (xs ys : List ValType) (weight : ℕ) → Follows (slice_cmp value_ord.cmp xs ys) (digits xs weight) (digits ys weight)
lists-follow [] [] weight = refl
lists-follow [] (y ∷ ys) weight = omega arith
lists-follow (x ∷ xs) [] weight = omega arith
lists-follow (x ∷ xs) (y ∷ ys) weight =
    digit-follow weight (value_place x) (value_place y) (digits xs (next_weight (digit x) weight)) (digits ys (next_weight (digit y) weight)) (slice_cmp value_ord.cmp xs ys) (value_ord.cmp x y)
    (digits-le xs _) (digits-le ys _)
    (λ e. subst (λ n. Follows (slice_cmp value_ord.cmp xs ys) (digits xs (next_weight (digit x) weight)) (digits ys n)) (ap (λ n. next_weight (n + 1) weight) e) (lists-follow xs ys (next_weight (digit x) weight)))
    (by-places x y)

params-le : (params : List ValType) → digits params (2 ^ 57) ≤ 2 ^ 60
params-le params = let most : digits params (2 ^ 57) ≤ 7 * 2 ^ 57 = digits-le params (2 ^ 57) in omega arith

forms-follow : (a b : Form) → Follows (form_cmp a b) (form_rank a) (form_rank b)
forms-follow (FunctionForm params results) (FunctionForm others outs) = follow-then (slice_cmp value_ord.cmp params others) (slice_cmp value_ord.cmp results outs) _ _ (lists-follow params others (2 ^ 57))
forms-follow (FunctionForm params results) (StructForm fields) = params-le params
forms-follow (FunctionForm params results) (ArrayForm field) = let most : digits params (2 ^ 57) ≤ 2 ^ 60 = params-le params in omega arith
forms-follow (StructForm fields) (FunctionForm params results) = params-le params
forms-follow (StructForm fields) (StructForm others) = alike-follow (form_cmp (StructForm fields) (StructForm others)) (2 ^ 60) (2 ^ 60) refl
forms-follow (StructForm fields) (ArrayForm field) = omega arith
forms-follow (ArrayForm field) (FunctionForm params results) = let most : digits params (2 ^ 57) ≤ 2 ^ 60 = params-le params in omega arith
forms-follow (ArrayForm field) (StructForm fields) = omega arith
forms-follow (ArrayForm field) (ArrayForm other) = alike-follow (form_cmp (ArrayForm field) (ArrayForm other)) (2 ^ 61) (2 ^ 61) refl

-- the order of kinds is that by rank and then kind
pub rank-first : (a b : Kind) → ordering_then (nat_cmp (form_rank a.form) (form_rank b.form)) (kind_cmp a b) ≡ kind_cmp a b
rank-first a b = follow-first (kind_cmp a b) (form_rank a.form) (form_rank b.form) (follow-then (form_cmp a.form b.form) _ _ _ (forms-follow a.form b.form))

-- a digit more of the number that the digits make
pub digits-step : (values : List ValType) (i rank weight d : ℕ) (value : ValType) → i < length values → value ≡ get_or values i value → d ≡ digit value →
    rank + digits (drop i values) weight ≡ digits values (2 ^ 57) → rank + weight * d + digits (drop (i + 1) values) (next_weight d weight) ≡ digits values (2 ^ 57)
digits-step values i rank weight d value small is digit-is so-far =
    let here : digits (drop i values) weight ≡ weight * digit value + digits (drop (i + 1) values) (next_weight (digit value) weight) =
    ap (λ (vs : List ValType). digits vs weight) (drop_more values i value small) ∙ ap (λ (v : ValType). digits (v ∷ drop (i + 1) values) weight) (sym is) in
    let all : rank + weight * digit value + digits (drop (i + 1) values) (next_weight (digit value) weight) ≡ digits values (2 ^ 57) = omega (arith, so-far) in
    subst (λ n. rank + weight * n + digits (drop (i + 1) values) (next_weight n weight) ≡ digits values (2 ^ 57)) (sym digit-is) all

pub digits-fit : (values : List ValType) (i rank weight d : ℕ) (value : ValType) → i < length values → value ≡ get_or values i value → d ≡ digit value →
    rank + digits (drop i values) weight ≡ digits values (2 ^ 57) → rank + weight * d ≤ 2 ^ 60
digits-fit values i rank weight d value small is digit-is so-far =
    let next : rank + weight * d + digits (drop (i + 1) values) (next_weight d weight) ≡ digits values (2 ^ 57) = digits-step values i rank weight d value small is digit-is so-far in
    let most : digits values (2 ^ 57) ≤ 2 ^ 60 = params-le values in
    omega arith

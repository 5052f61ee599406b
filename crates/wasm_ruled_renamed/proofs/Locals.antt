-- Lemmas: the locals that a normal form uses, and their new numbers.
use Rattle.std.specs.Prelude.{ℕ, suc, ◌≡◌, ◌<◌, ◌≤◌, ◌+◌, ◌==◌, ◌⊎◌, Bool, true, false, List, [], ◌∷◌, length, map, refl, if◌then◌else◌}
use Rattle.std.specs.List.{filter}
use Rattle.std.proofs.Common.{ap, ◌∙◌, arith, cond, inl, inr}
use Rattle.std.proofs.lemmas.Bool.{cases_lt, eq-eqb, le-ltb, lt-ltb}
use Rattle.walrus_forms.specs.Renaming.{ValueBelow}
use Rattle.walrus_forms.specs.declared.value.ValType.{ValType}
use Rattle.wasm_ruled_normal.specs.wasm_normal_form.Bodies.{is_used, new_number, used_keys}
use Rattle.wasm_ruled_normal.specs.wasm_normal_form.Locals.{Key, in_order, insert_key, is_less, key_cmp, numbered, position}
use Rattle.wasm_ruled_normal.specs.wasm_normal_form.Roles.{Placed}
use Rattle.wasm_ruled_normal.specs.wasm_ruled_modules.Rules.{LocalsBelow}

-- a key of this number stands among these
abbrev pub Has : ℕ → List Key → Type 0
Has n [] = ⊥
Has n (k ∷ ks) = (k.1 ≡ n) ⊎ Has n ks

has_insert : (j : Key) (ks : List Key) (n : ℕ) → (j.1 ≡ n) ⊎ Has n ks → Has n (insert_key j ks)
has_insert j [] n h = h
has_insert j (k ∷ ks) n h = by (is_less (key_cmp k j)) h (has_insert j ks n)
  where
    by : (b : Bool) → (j.1 ≡ n) ⊎ Has n (k ∷ ks) → ((j.1 ≡ n) ⊎ Has n ks → Has n (insert_key j ks)) → Has n (if b then k ∷ insert_key j ks else j ∷ (k ∷ ks))
    by true (inl e) later = inr (later (inl e))
    by true (inr (inl e)) later = inl e
    by true (inr (inr i)) later = inr (later (inr i))
    by false i later = i

has_order : (ks : List Key) (n : ℕ) → Has n ks → Has n (in_order ks)
has_order [] n h = h
has_order (k ∷ ks) n (inl e) = has_insert k (in_order ks) n (inl e)
has_order (k ∷ ks) n (inr i) = has_insert k (in_order ks) n (inr (has_order ks n i))

has_filter : (p : ℕ → Bool) (ks : List Key) (n : ℕ) → p n ≡ true → Has n ks → Has n (filter (λ (k : Key). p k.1) ks)
has_filter p [] n e h = h
has_filter p (k ∷ ks) n e (inl same) =
    let here : p k.1 ≡ true = ap p same ∙ e in rw here (inl same)
has_filter p (k ∷ ks) n e (inr i) = by (p k.1) (has_filter p ks n e i)
  where
    by : (b : Bool) → Has n (filter (λ (k : Key). p k.1) ks) → Has n (cond b (k ∷ filter (λ (k : Key). p k.1) ks) (filter (λ (k : Key). p k.1) ks))
    by true later = inr later
    by false later = later

has_numbered : (tys : List ValType) (from n : ℕ) → from ≤ n → n < from + length tys → Has n (numbered from tys)
has_numbered [] from n le lt = absurd (omega (arith, le, lt))
has_numbered (ty ∷ tys) from n le lt = elim (cases_lt from n) as (λ _. (from ≡ n) ⊎ Has n (numbered (suc from) tys)) [
  | inl h ↦ inr (has_numbered tys (suc from) n (omega (arith, h)) (omega (arith, lt)))
  | inr h ↦ inl (omega (arith, h, le))
]

position_small : (ks : List Key) (n : ℕ) → Has n ks → position ks n < length ks
position_small [] n h = absurd h
position_small (k ∷ ks) n (inl e) = rw (eq-eqb k.1 n e) (omega arith)
position_small (k ∷ ks) n (inr i) = by (k.1 == n) (position_small ks n i)
  where
    by : (b : Bool) → position ks n < length ks → (if b then 0 else suc (position ks n)) < suc (length ks)
    by true h = omega arith
    by false h = omega (arith, h)

-- ---- how many, and of which types

insert_length : (j : Key) (ks : List Key) → length (insert_key j ks) ≡ suc (length ks)
insert_length j [] = refl
insert_length j (k ∷ ks) = by (is_less (key_cmp k j)) (insert_length j ks)
  where
    by : (b : Bool) → length (insert_key j ks) ≡ suc (length ks) → length (if b then k ∷ insert_key j ks else j ∷ (k ∷ ks)) ≡ suc (suc (length ks))
    by true e = ap suc e
    by false e = refl

order_length : (ks : List Key) → length (in_order ks) ≡ length ks
order_length [] = refl
order_length (k ∷ ks) = insert_length k (in_order ks) ∙ ap suc (order_length ks)

filter_length : (p : Key → Bool) (ks : List Key) → length (filter p ks) ≤ length ks
filter_length p [] = omega arith
filter_length p (k ∷ ks) = by (p k) (filter_length p ks)
  where
    by : (b : Bool) → length (filter p ks) ≤ length ks → length (cond b (k ∷ filter p ks) (filter p ks)) ≤ suc (length ks)
    by true h = omega (arith, h)
    by false h = omega (arith, h)

numbered_length : (from : ℕ) (tys : List ValType) → length (numbered from tys) ≡ length tys
numbered_length from [] = refl
numbered_length from (ty ∷ tys) = ap suc (numbered_length (suc from) tys)

abbrev TypesBelow : ℕ → List Key → Type 0
TypesBelow types ks = LocalsBelow types (map (λ (k : Key). k.0) ks)

insert_below : (types : ℕ) (j : Key) (ks : List Key) → ValueBelow types j.0 → TypesBelow types ks → TypesBelow types (insert_key j ks)
insert_below types j [] h all = (h, tt)
insert_below types j (k ∷ ks) h all = by (is_less (key_cmp k j)) (insert_below types j ks h all.1)
  where
    by : (b : Bool) → TypesBelow types (insert_key j ks) → TypesBelow types (if b then k ∷ insert_key j ks else j ∷ (k ∷ ks))
    by true later = (all.0, later)
    by false later = (h, all)

order_below : (types : ℕ) (ks : List Key) → TypesBelow types ks → TypesBelow types (in_order ks)
order_below types [] h = tt
order_below types (k ∷ ks) h = insert_below types k (in_order ks) h.0 (order_below types ks h.1)

filter_below : (types : ℕ) (p : Key → Bool) (ks : List Key) → TypesBelow types ks → TypesBelow types (filter p ks)
filter_below types p [] h = tt
filter_below types p (k ∷ ks) h = by (p k) (filter_below types p ks h.1)
  where
    by : (b : Bool) → TypesBelow types (filter p ks) → TypesBelow types (cond b (k ∷ filter p ks) (filter p ks))
    by true later = (h.0, later)
    by false later = later

numbered_below : (types from : ℕ) (tys : List ValType) → LocalsBelow types tys → TypesBelow types (numbered from tys)
numbered_below types from [] h = tt
numbered_below types from (ty ∷ tys) h = (h.0, numbered_below types (suc from) tys h.1)

module _ (params : ℕ) (tys : List ValType) (ops : List Placed) where
  -- no more are left than there were
  pub keys_length : length (used_keys params tys ops) ≤ length tys
  keys_length =
      let fewer = filter_length (λ (k : Key). is_used ops k.1) (numbered params tys) in
      omega (arith, fewer, order_length (filter (λ (k : Key). is_used ops k.1) (numbered params tys)), numbered_length params tys)

  pub keys_below : (types : ℕ) → LocalsBelow types tys → LocalsBelow types (map (λ (k : Key). k.0) (used_keys params tys ops))
  keys_below types h =
      order_below types (filter (λ (k : Key). is_used ops k.1) (numbered params tys)) (filter_below types (λ (k : Key). is_used ops k.1) (numbered params tys) (numbered_below types params tys h))

  -- the new number of a used local is that of one that is left
  pub number_small : (n : ℕ) → n < params + length tys → is_used ops n ≡ true → new_number params (used_keys params tys ops) n < params + length (used_keys params tys ops)
  number_small n lt used = elim (cases_lt n params) as (λ _. new_number params (used_keys params tys ops) n < params + length (used_keys params tys ops)) [
    | inl h ↦ rw (lt-ltb n params h) (omega (arith, h))
    | inr h ↦ rw (le-ltb n params h) (behind h)
  ]
    where
      behind : params ≤ n → params + position (used_keys params tys ops) n < params + length (used_keys params tys ops)
      behind le =
          let there = has_order (filter (λ (k : Key). is_used ops k.1) (numbered params tys)) n (has_filter (is_used ops) (numbered params tys) n used (has_numbered tys params n le lt)) in
          let small = position_small (used_keys params tys ops) n there in omega (arith, small)

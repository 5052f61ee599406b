-- Lemmas: where the ids of a function's locals stand.
use Rattle.std.specs.Prelude.{ℕ, zero, suc, ◌≡◌, ◌≤◌, ◌<◌, ◌+◌, ◌==◌, ◌||◌, ◌&&◌, ◌⊎◌, Bool, true, false, not, List, [], ◌∷◌, ◌++◌, length, map, Some, get_or, slice_get, refl, if◌then◌else◌}
use Rattle.std.specs.List.{filter, range_with_len}
use Rattle.std.proofs.Common.{ap, sym, ◌∙◌, subst, cond, inl, inr, arith}
use Rattle.std.proofs.lemmas.Bool.{cases_eq, cases_lt, eq-eqb, le-ltb, lt-ltb, ne_eqb}
use Rattle.std.proofs.lemmas.List.{get_or-append-add, get_or_append_left, length-append}
use Rattle.std.proofs.lemmas.List.FromFn.{get_or-range_with_len, length-range_with_len}
use Rattle.std.proofs.lemmas.Option.{get_or_from_slice_get, slice_get-get_or, slice_get_within}
use Rattle.walrus_types.specs.walrus_forms.declared.value.ValType.{ValType}
use Rattle.wasm_merged_modules.specs.wasm_normal_modules.wasm_ruled_renamed.wasm_ruled_normal.wasm_normal_form.Locals.{Key, in_order, insert_key, is_less, key_cmp, numbered, position}
use Rattle.wasm_merged_modules.specs.wasm_normal_modules.wasm_ruled_renamed.wasm_ruled_normal.wasm_normal_form.Bodies.{is_used, new_number, used_keys}
use Rattle.wasm_merged_modules.specs.wasm_normal_modules.wasm_ruled_renamed.wasm_ruled_normal.wasm_normal_form.Roles.{Placed}
use Rattle.walrus_parse_laws.specs.walrus_named_bodies.walrus_item_names.walrus_module.walrus_tree.Trees.{AreDistinct, Has}
use Rattle.walrus_types.specs.walrus_items.declared.local.Local.{Local}
use Rattle.walrus_parse_laws.specs.walrus_meaning.walrus_local_function.declared.local_function.LocalFunction.{LocalFunction}
use Rattle.walrus_parse_laws.specs.walrus_meaning.Bodies.{depth_of, has_number, local_ids, named_locals, own_operators}
use Rattle.walrus_parse_laws.proofs.ListLemmas.{some_is}

-- ---- where no id stands twice each stands at its place

stands : (ids : List ℕ) (k id : ℕ) → slice_get ids k ≡ Some id → Has ids id
stands [] k id e = absurd cc
stands (x ∷ ids) zero id e = inl (some_is x id e)
stands (x ∷ ids) (suc k) id e = inr (stands ids k id e)

behind : (x : ℕ) (ids : List ℕ) (id : ℕ) → (Has ids x → ⊥) → Has ids id → x ≡ id → ⊥
behind x ids id none h e = none (subst (Has ids) (sym e) h)

pub placed : (ids : List ℕ) (k id : ℕ) → AreDistinct ids → slice_get ids k ≡ Some id → depth_of ids id ≡ k
placed [] k id d e = absurd cc
placed (x ∷ ids) zero id d e = ap (λ (b : Bool). if b then 0 else suc (depth_of ids id)) (eq-eqb x id (some_is x id e))
placed (x ∷ ids) (suc k) id d e =
    ap (λ (b : Bool). if b then 0 else suc (depth_of ids id)) (ne_eqb x id (behind x ids id d.0 (stands ids k id e))) ∙ ap suc (placed ids k id d.1 e)

-- ---- the ids of used locals, in their order

abbrev numbers : List Key → List ℕ
numbers ks = map (λ (k : Key). k.1) ks

of_insert : (k : Key) (js : List Key) (n : ℕ) → Has (numbers (insert_key k js)) n → (k.1 ≡ n) ⊎ Has (numbers js) n
of_insert k [] n h = h
of_insert k (j ∷ js) n h = by (is_less (key_cmp j k)) (of_insert k js n) h
  where
    by : (b : Bool) → (Has (numbers (insert_key k js)) n → (k.1 ≡ n) ⊎ Has (numbers js) n) → Has (numbers (if b then j ∷ insert_key k js else k ∷ (j ∷ js))) n → (k.1 ≡ n) ⊎ Has (numbers (j ∷ js)) n
    by true later (inl e) = inr (inl e)
    by true later (inr i) = elim (later i) as (λ _. (k.1 ≡ n) ⊎ Has (numbers (j ∷ js)) n) [ inl e ↦ inl e | inr there ↦ inr (inr there) ]
    by false later i = i

distinct_insert : (k : Key) (js : List Key) → AreDistinct (numbers js) → (Has (numbers js) k.1 → ⊥) → AreDistinct (numbers (insert_key k js))
distinct_insert k [] d none = ((λ h. h), tt)
distinct_insert k (j ∷ js) d none = by (is_less (key_cmp j k)) (distinct_insert k js d.1 (λ h. none (inr h)))
  where
    first : Has (numbers (insert_key k js)) j.1 → ⊥
    first h = elim (of_insert k js j.1 h) as (λ _. ⊥) [ inl e ↦ none (inl (sym e)) | inr there ↦ d.0 there ]

    by : (b : Bool) → AreDistinct (numbers (insert_key k js)) → AreDistinct (numbers (if b then j ∷ insert_key k js else k ∷ (j ∷ js)))
    by true later = (first, later)
    by false later = (none, d)

of_order : (ks : List Key) (n : ℕ) → Has (numbers (in_order ks)) n → Has (numbers ks) n
of_order [] n h = h
of_order (k ∷ ks) n h = elim (of_insert k (in_order ks) n h) as (λ _. Has (numbers (k ∷ ks)) n) [ inl e ↦ inl e | inr i ↦ inr (of_order ks n i) ]

distinct_order : (ks : List Key) → AreDistinct (numbers ks) → AreDistinct (numbers (in_order ks))
distinct_order [] d = tt
distinct_order (k ∷ ks) d = distinct_insert k (in_order ks) (distinct_order ks d.1) (λ h. d.0 (of_order ks k.1 h))

-- ---- those that pass a test

module _ (test : ℕ → Bool) where
  abbrev passing : List Key → List Key
  passing ks = filter (λ (k : Key). test k.1) ks

  of_passing : (ks : List Key) (n : ℕ) → Has (numbers (passing ks)) n → (test n ≡ true) × Has (numbers ks) n
  of_passing [] n h = absurd h
  of_passing (k ∷ ks) n h = by (test k.1) refl (λ i. (let p = of_passing ks n i in (p.0, inr p.1))) h
    where
      by : (b : Bool) → test k.1 ≡ b → (Has (numbers (passing ks)) n → (test n ≡ true) × Has (numbers (k ∷ ks)) n) → Has (numbers (cond b (k ∷ passing ks) (passing ks))) n
          → (test n ≡ true) × Has (numbers (k ∷ ks)) n
      by true e later (inl same) = (ap test (sym same) ∙ e, inl same)
      by true e later (inr i) = later i
      by false e later i = later i

  to_passing : (ks : List Key) (n : ℕ) → test n ≡ true → Has (numbers ks) n → Has (numbers (passing ks)) n
  to_passing [] n e h = h
  to_passing (k ∷ ks) n e h = by (test k.1) refl (to_passing ks n e) h
    where
      differ : false ≡ true → ⊥
      differ g = absurd cc

      by : (b : Bool) → test k.1 ≡ b → (Has (numbers ks) n → Has (numbers (passing ks)) n) → Has (numbers (k ∷ ks)) n → Has (numbers (cond b (k ∷ passing ks) (passing ks))) n
      by true f later (inl same) = inl same
      by true f later (inr i) = inr (later i)
      by false f later (inl same) = absurd (differ (sym f ∙ ap test same ∙ e))
      by false f later (inr i) = later i

  distinct_passing : (ks : List Key) → AreDistinct (numbers ks) → AreDistinct (numbers (passing ks))
  distinct_passing [] d = tt
  distinct_passing (k ∷ ks) d = by (test k.1) (distinct_passing ks d.1)
    where
      by : (b : Bool) → AreDistinct (numbers (passing ks)) → AreDistinct (numbers (cond b (k ∷ passing ks) (passing ks)))
      by true later = ((λ h. d.0 (of_passing ks k.1 h).1), later)
      by false later = later

-- ---- all locals

from_on : (n : ℕ) (tys : List ValType) (k : ℕ) → Has (numbers (numbered n tys)) k → n ≤ k
from_on n [] k h = absurd h
from_on n (ty ∷ tys) k (inl e) = omega (arith, e)
from_on n (ty ∷ tys) k (inr h) = let le = from_on (suc n) tys k h in omega (arith, le)

distinct_numbered : (n : ℕ) (tys : List ValType) → AreDistinct (numbers (numbered n tys))
distinct_numbered n [] = tt
distinct_numbered n (ty ∷ tys) = ((λ h. (let le = from_on (suc n) tys n h in absurd (omega (arith, le)))), distinct_numbered (suc n) tys)

-- ---- at its new number stands a parameter, or a local that is used

to_insert : (k : Key) (js : List Key) (n : ℕ) → (k.1 ≡ n) ⊎ Has (numbers js) n → Has (numbers (insert_key k js)) n
to_insert k [] n h = h
to_insert k (j ∷ js) n h = by (is_less (key_cmp j k)) (to_insert k js n) h
  where
    by : (b : Bool) → ((k.1 ≡ n) ⊎ Has (numbers js) n → Has (numbers (insert_key k js)) n) → (k.1 ≡ n) ⊎ Has (numbers (j ∷ js)) n → Has (numbers (if b then j ∷ insert_key k js else k ∷ (j ∷ js))) n
    by true later (inl e) = inr (later (inl e))
    by true later (inr (inl e)) = inl e
    by true later (inr (inr i)) = inr (later (inr i))
    by false later i = i

to_order : (ks : List Key) (n : ℕ) → Has (numbers ks) n → Has (numbers (in_order ks)) n
to_order [] n h = h
to_order (k ∷ ks) n (inl e) = to_insert k (in_order ks) n (inl e)
to_order (k ∷ ks) n (inr i) = to_insert k (in_order ks) n (inr (to_order ks n i))

to_numbered : (from : ℕ) (tys : List ValType) (n : ℕ) → from ≤ n → n < from + length tys → Has (numbers (numbered from tys)) n
to_numbered from [] n le lt = absurd (omega (arith, le, lt))
to_numbered from (ty ∷ tys) n le lt = elim (cases_eq from n) as (λ _. Has (numbers (numbered from (ty ∷ tys))) n) [
  | inl e ↦ inl e
  | inr other ↦ inr (to_numbered (suc from) tys n (omega (arith, le, other)) (omega (arith, lt)))
]

at_position : (ks : List Key) (n : ℕ) → Has (numbers ks) n → slice_get (numbers ks) (position ks n) ≡ Some n
at_position [] n h = absurd h
at_position (k ∷ ks) n h = elim (cases_eq k.1 n) as (λ _. slice_get (numbers (k ∷ ks)) (position (k ∷ ks) n) ≡ Some n) [
  | inl e ↦ ap (λ (b : Bool). slice_get (numbers (k ∷ ks)) (if b then 0 else suc (position ks n))) (eq-eqb k.1 n e) ∙ ap (λ (m : ℕ). Some m) e
  | inr other ↦ ap (λ (b : Bool). slice_get (numbers (k ∷ ks)) (if b then 0 else suc (position ks n))) (ne_eqb k.1 n other) ∙ at_position ks n (behind_first other h)
]
  where
    behind_first : (k.1 ≡ n → ⊥) → (k.1 ≡ n) ⊎ Has (numbers ks) n → Has (numbers ks) n
    behind_first other (inl e) = absurd (other e)
    behind_first other (inr i) = i

module _ (params : ℕ) (tys : List ValType) (ops : List Placed) where
  abbrev keys : List Key
  keys = used_keys params tys ops

  abbrev kept : List ℕ
  kept = range_with_len 0 params ++ numbers keys

  first : length (range_with_len 0 params) ≡ params
  first = length-range_with_len 0 params

  total : length kept ≡ length (range_with_len 0 params) + length (numbers keys)
  total = length-append (range_with_len 0 params) (numbers keys)

  used_there : (n : ℕ) → params ≤ n → n < params + length tys → is_used ops n ≡ true → Has (numbers keys) n
  used_there n le lt used = to_order (passing (is_used ops) (numbered params tys)) n (to_passing (is_used ops) (numbered params tys) n used (to_numbered params tys n le lt))

  pub at_number : (n : ℕ) → n < params + length tys → is_used ops n ≡ true → slice_get kept (new_number params keys n) ≡ Some n
  at_number n bound used = elim (cases_lt n params) as (λ _. slice_get kept (new_number params keys n) ≡ Some n) [
    | inl lt ↦ ap (λ (b : Bool). slice_get kept (if b then n else params + position keys n)) (lt-ltb n params lt)
        ∙ slice_get-get_or kept n 0 (omega (arith, lt, first, total)) ∙ ap (λ (m : ℕ). Some m) (get_or_append_left (range_with_len 0 params) (numbers keys) 0 n (omega (arith, lt, first)) ∙ get_or-range_with_len 0 params n 0 lt ∙ (let e : 0 + n ≡ n = omega arith in e))
    | inr le ↦ (let there = at_position keys n (used_there n le bound used) in let within = slice_get_within (numbers keys) (position keys n) n there in
        ap (λ (b : Bool). slice_get kept (if b then n else params + position keys n)) (le-ltb n params le)
        ∙ slice_get-get_or kept (params + position keys n) 0 (omega (arith, within, first, total))
        ∙ ap (λ (m : ℕ). Some m)
        (ap (λ (m : ℕ). get_or kept (m + position keys n) 0) (sym first) ∙ get_or-append-add (range_with_len 0 params) (numbers keys) (position keys n) 0 ∙ get_or_from_slice_get (numbers keys) (position keys n) n 0 there))
  ]

-- ---- arguments, and other ones behind them

of_joined : (xs ys : List ℕ) (n : ℕ) → Has (xs ++ ys) n → Has xs n ⊎ Has ys n
of_joined [] ys n h = inr h
of_joined (x ∷ xs) ys n (inl e) = inl (inl e)
of_joined (x ∷ xs) ys n (inr h) = elim (of_joined xs ys n h) as (λ _. Has (x ∷ xs) n ⊎ Has ys n) [ inl i ↦ inl (inr i) | inr i ↦ inr i ]

distinct_joined : (xs ys : List ℕ) → AreDistinct xs → AreDistinct ys → ((n : ℕ) → Has xs n → Has ys n → ⊥) → AreDistinct (xs ++ ys)
distinct_joined [] ys d e apart = e
distinct_joined (x ∷ xs) ys d e apart = (
  (λ h. elim (of_joined xs ys x h) as (λ _. ⊥) [ inl i ↦ d.0 i | inr i ↦ apart x (inl refl) i ]),
  distinct_joined xs ys d.1 e (λ n h i. apart n (inr h) i),
)

or_true : (b : Bool) → (b || true) ≡ true
or_true true = refl
or_true false = refl

has_there : (ns : List ℕ) (n : ℕ) → Has ns n → has_number ns n ≡ true
has_there [] n h = absurd h
has_there (m ∷ ns) n (inl e) = ap (λ (b : Bool). b || has_number ns n) (eq-eqb m n e)
has_there (m ∷ ns) n (inr h) = ap (λ (b : Bool). (m == n) || b) (has_there ns n h) ∙ or_true (m == n)

right_not : (a b : Bool) → (a && not b) ≡ true → b ≡ true → ⊥
right_not true true e same = absurd cc
right_not true false e same = absurd cc
right_not false b e same = absurd cc

-- ---- a function's locals

module _ (locals : List Local) (local : LocalFunction) where
  abbrev args : List ℕ
  args = local.args.items

  abbrev all : List Key
  all = numbered 0 (map (λ (l : Local). l.ty) locals)

  abbrev is_other : ℕ → Bool
  is_other n = has_number (named_locals (own_operators local)) n && not (has_number args n)

  apart : (n : ℕ) → Has args n → Has (numbers (in_order (passing is_other all))) n → ⊥
  apart n h i = right_not (has_number (named_locals (own_operators local)) n) (has_number args n) (of_passing is_other all n (of_order (passing is_other all) n i)).0 (has_there args n h)

  -- no id stands twice among theirs
  pub ids_distinct : AreDistinct args → AreDistinct (local_ids locals local)
  ids_distinct d =
      distinct_joined args (numbers (in_order (passing is_other all))) d
      (distinct_order (passing is_other all) (distinct_passing is_other all (distinct_numbered 0 (map (λ (l : Local). l.ty) locals)))) apart

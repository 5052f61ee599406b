-- Lemmas: locals that are numbered from another number on keep their order.
use Rattle.std.specs.Prelude.{ℕ, suc, ◌≡◌, ◌<◌, ◌≤◌, ◌+◌, ◌==◌, ◌||◌, Bool, true, false, List, [], ◌∷◌, ◌++◌, length, map, Some, slice_get, refl, if◌then◌else◌}
use Rattle.std.specs.List.{filter, list_any}
use Rattle.std.specs.Cmp.{nat_cmp_is}
use Rattle.std.specs.Ordering.{nat_cmp, ordering_then}
use Rattle.std.specs.declared.cmp.Ordering.{Ordering}
use Rattle.std.specs.declared.cmp.Ordering.TheVariants.{Less, Equal, Greater}
use Rattle.std.proofs.Common.{ap, sym, ◌∙◌, subst, arith, inl, inr}
use Rattle.std.proofs.lemmas.Bool.{cases_eq, cases_order, eq-eqb, eqb-true, ne_eqb}
use Rattle.walrus_named_bodies.specs.walrus_file_bodies.walrus_body_trees.walrus_body_nesting.wasm_body_grammar.wasm_grammar.walrus_forms.declared.value.ValType.{ValType}
use Rattle.walrus_named_bodies.specs.walrus_file_bodies.walrus_body_trees.walrus_body_nesting.wasm_body_grammar.wasm_grammar.walrus_forms.ValueOrder.{value_cmp}
use Rattle.walrus_named_bodies.specs.walrus_file_bodies.walrus_items_into.walrus_module_bodies.walrus_body_trees.walrus_meaning.walrus_local_function.walrus_body_locals.wasm_normal_form.Locals.{Key, in_order, insert_key, is_less, key_cmp, numbered, position}

-- ---- numbers that are all moved

abbrev pub moved : ℕ → Key → Key
moved first k = (k.0, first + k.1)

pub eqb_moved : (first a b : ℕ) → ((first + a) == (first + b)) ≡ (a == b)
eqb_moved first a b = elim (cases_eq a b) as (λ _. ((first + a) == (first + b)) ≡ (a == b)) [
  | inl e ↦ eq-eqb (first + a) (first + b) (ap (λ (n : ℕ). first + n) e) ∙ sym (eq-eqb a b e)
  | inr n ↦ ne_eqb (first + a) (first + b) (λ e. n (omega (arith, e))) ∙ sym (ne_eqb a b n)
]

cmp_moved : (first a b : ℕ) → nat_cmp (first + a) (first + b) ≡ nat_cmp a b
cmp_moved first a b = elim (cases_order a b) as (λ _. nat_cmp (first + a) (first + b) ≡ nat_cmp a b) [
  | inl e ↦ sym (nat_cmp_is (first + a) (first + b) Equal (ap (λ (n : ℕ). first + n) e)) ∙ nat_cmp_is a b Equal e
  | inr h ↦ elim h as (λ _. nat_cmp (first + a) (first + b) ≡ nat_cmp a b) [
    | inl lt ↦ sym (nat_cmp_is (first + a) (first + b) Less (omega (arith, lt))) ∙ nat_cmp_is a b Less lt
    | inr gt ↦ sym (nat_cmp_is (first + a) (first + b) Greater (omega (arith, gt))) ∙ nat_cmp_is a b Greater gt
  ]
]

insert_moved : (first : ℕ) (k : Key) (ks : List Key) → insert_key (moved first k) (map (moved first) ks) ≡ map (moved first) (insert_key k ks)
insert_moved first k [] = refl
insert_moved first k (j ∷ js) =
    ap (λ (o : Ordering). if is_less (ordering_then (value_cmp j.0 k.0) o) then moved first j ∷ insert_key (moved first k) (map (moved first) js) else moved first k ∷ (moved first j ∷ map (moved first) js)) (cmp_moved first j.1 k.1)
    ∙ go (is_less (key_cmp j k)) (insert_moved first k js)
  where
    go : (b : Bool) → insert_key (moved first k) (map (moved first) js) ≡ map (moved first) (insert_key k js)
        → (if b then moved first j ∷ insert_key (moved first k) (map (moved first) js) else moved first k ∷ (moved first j ∷ map (moved first) js)) ≡ map (moved first) (if b then j ∷ insert_key k js else k ∷ (j ∷ js))
    go true later = ap (λ (l : List Key). moved first j ∷ l) later
    go false later = refl

pub order_moved : (first : ℕ) (ks : List Key) → in_order (map (moved first) ks) ≡ map (moved first) (in_order ks)
order_moved first [] = refl
order_moved first (k ∷ ks) = ap (insert_key (moved first k)) (order_moved first ks) ∙ insert_moved first k (in_order ks)

pub types_moved : (first : ℕ) (ks : List Key) → map (λ (k : Key). k.0) (map (moved first) ks) ≡ map (λ (k : Key). k.0) ks
types_moved first [] = refl
types_moved first (k ∷ ks) = ap (λ (l : List ValType). k.0 ∷ l) (types_moved first ks)

-- ---- which of them pass a test

abbrev pub passing : (ℕ → Bool) → List Key → List Key
passing test ks = filter (λ (k : Key). test k.1) ks

pub numbered_append : (n : ℕ) (xs ys : List ValType) → numbered n (xs ++ ys) ≡ numbered n xs ++ numbered (n + length xs) ys
numbered_append n [] ys = ap (λ (m : ℕ). numbered m ys) (omega arith)
numbered_append n (x ∷ xs) ys = ap (λ (l : List Key). (x, n) ∷ l) (numbered_append (suc n) xs ys ∙ ap (λ (m : ℕ). numbered (suc n) xs ++ numbered m ys) (omega arith))

pub none_pass : (test : ℕ → Bool) (n : ℕ) (tys : List ValType) → ((k : ℕ) → n ≤ k → k < n + length tys → test k ≡ false) → passing test (numbered n tys) ≡ []
none_pass test n [] h = refl
none_pass test n (ty ∷ tys) h =
    ap (λ (b : Bool). if b then (ty, n) ∷ passing test (numbered (suc n) tys) else passing test (numbered (suc n) tys)) (h n (omega arith) (omega arith))
    ∙ none_pass test (suc n) tys (λ k le lt. h k (omega (arith, le)) (omega (arith, lt)))

pub pass_moved : (new old : ℕ → Bool) (first n at : ℕ) → at ≡ first + n → (tys : List ValType) → ((k : ℕ) → n ≤ k → k < n + length tys → new (first + k) ≡ old k)
    → passing new (numbered at tys) ≡ map (moved first) (passing old (numbered n tys))
pass_moved new old first n at e [] h = refl
pass_moved new old first n at e (ty ∷ tys) h =
    ap (λ (b : Bool). if b then (ty, at) ∷ passing new (numbered (suc at) tys) else passing new (numbered (suc at) tys)) (ap new e ∙ h n (omega arith) (omega arith))
    ∙ go (old n) (pass_moved new old first (suc n) (suc at) (omega (arith, e)) tys (λ k le lt. h k (omega (arith, le)) (omega (arith, lt))))
  where
    go : (b : Bool) → passing new (numbered (suc at) tys) ≡ map (moved first) (passing old (numbered (suc n) tys))
        → (if b then (ty, at) ∷ passing new (numbered (suc at) tys) else passing new (numbered (suc at) tys)) ≡ map (moved first) (if b then (ty, n) ∷ passing old (numbered (suc n) tys) else passing old (numbered (suc n) tys))
    go true later = ap (λ (m : ℕ). (ty, m) ∷ passing new (numbered (suc at) tys)) e ∙ ap (λ (l : List Key). (ty, first + n) ∷ l) later
    go false later = later

-- ---- where a number stands among them

abbrev pub has : List ℕ → ℕ → Bool
has ns n = list_any (λ m. m == n) ns

abbrev pub numbers : List Key → List ℕ
numbers ks = map (λ (k : Key). k.1) ks

pub at_position : (ks : List Key) (n : ℕ) → has (numbers ks) n ≡ true → slice_get (numbers ks) (position ks n) ≡ Some n
at_position [] n e = absurd cc
at_position (k ∷ ks) n e = go (λ h. at_position ks n h) (k.1 == n) refl e
  where
    go : (has (numbers ks) n ≡ true → slice_get (numbers ks) (position ks n) ≡ Some n)
        → (b : Bool) → (k.1 == n) ≡ b → (b || has (numbers ks) n) ≡ true → slice_get (k.1 ∷ numbers ks) (if b then 0 else suc (position ks n)) ≡ Some n
    go later true same h = ap (λ (m : ℕ). Some m) (eqb-true k.1 n same)
    go later false same h = later h

or_swap : (a b c : Bool) → (a || (b || c)) ≡ (b || (a || c))
or_swap true true c = refl
or_swap true false c = refl
or_swap false true c = refl
or_swap false false c = refl

has_insert : (k : Key) (ks : List Key) (n : ℕ) → has (numbers (insert_key k ks)) n ≡ ((k.1 == n) || has (numbers ks) n)
has_insert k [] n = refl
has_insert k (j ∷ js) n = go (is_less (key_cmp j k)) (has_insert k js n)
  where
    go : (b : Bool) → has (numbers (insert_key k js)) n ≡ ((k.1 == n) || has (numbers js) n)
        → has (numbers (if b then j ∷ insert_key k js else k ∷ (j ∷ js))) n ≡ ((k.1 == n) || ((j.1 == n) || has (numbers js) n))
    go true later = ap (λ (b : Bool). (j.1 == n) || b) later ∙ or_swap (j.1 == n) (k.1 == n) (has (numbers js) n)
    go false later = refl

pub has_order : (ks : List Key) (n : ℕ) → has (numbers (in_order ks)) n ≡ has (numbers ks) n
has_order [] n = refl
has_order (k ∷ ks) n = has_insert k (in_order ks) n ∙ ap (λ (b : Bool). (k.1 == n) || b) (has_order ks n)

-- what passes, and is numbered, is there
pub has_passing : (test : ℕ → Bool) (from : ℕ) (tys : List ValType) (n : ℕ) → from ≤ n → n < from + length tys → test n ≡ true → has (numbers (passing test (numbered from tys))) n ≡ true
has_passing test from [] n le lt e = absurd (omega (arith, le, lt))
has_passing test from (ty ∷ tys) n le lt e = elim (cases_eq from n) as (λ _. has (numbers (passing test (numbered from (ty ∷ tys)))) n ≡ true) [
  | inl same ↦ own (ap test same ∙ e) (eq-eqb from n same)
  | inr other ↦ behind (test from) (has_passing test (suc from) tys n (omega (arith, le, other)) (omega (arith, lt)) e)
]
  where
    Goal : Bool → Type 0
    Goal b = has (numbers (if b then (ty, from) ∷ passing test (numbered (suc from) tys) else passing test (numbered (suc from) tys))) n ≡ true

    own : test from ≡ true → (from == n) ≡ true → Goal (test from)
    own passes same = subst Goal (sym passes) (ap (λ (b : Bool). b || has (numbers (passing test (numbered (suc from) tys))) n) same)

    or_true : (b : Bool) → (b || true) ≡ true
    or_true true = refl
    or_true false = refl

    behind : (b : Bool) → has (numbers (passing test (numbered (suc from) tys))) n ≡ true → Goal b
    behind true h = ap (λ (c : Bool). (from == n) || c) h ∙ or_true (from == n)
    behind false h = h

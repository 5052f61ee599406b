-- Lemmas: where the ids of a function's locals stand.
use Rattle.std.specs.Prelude.{ℕ, zero, suc, ◌≡◌, ◌<◌, ◌≤◌, ◌+◌, ◌==◌, ◌||◌, Bool, true, false, List, [], ◌∷◌, ◌++◌, length, map, Some, slice_get, refl, if◌then◌else◌}
use Rattle.std.specs.List.{range_with_len}
use Rattle.std.specs.Option.{option_map}
use Rattle.std.proofs.Common.{ap, ◌∙◌, subst, arith, inl, inr}
use Rattle.std.proofs.lemmas.Bool.{cases_lt, eqb-true, le-ltb, lt-ltb}
use Rattle.std.proofs.lemmas.List.FromFn.{length-range_with_len}
use Rattle.std.proofs.lemmas.Option.{slice_get-map}
use Rattle.walrus_named_bodies.specs.walrus_file_bodies.walrus_body_trees.walrus_body_nesting.wasm_body_grammar.wasm_grammar.walrus_forms.declared.value.ValType.{ValType}
use Rattle.walrus_named_bodies.specs.walrus_file_bodies.walrus_items_into.walrus_module_bodies.walrus_body_trees.walrus_meaning.walrus_local_function.walrus_body_locals.wasm_normal_form.Bodies.{new_number}
use Rattle.walrus_named_bodies.specs.walrus_file_bodies.walrus_items_into.walrus_module_bodies.walrus_body_trees.walrus_meaning.walrus_local_function.walrus_body_locals.wasm_normal_form.Locals.{Key, in_order, numbered, position}
use Rattle.walrus_parse_laws.proofs.KeyLemmas.{at_position, has, has_order, has_passing, numbers, passing}
use Rattle.walrus_parse_laws.proofs.ListLemmas.{AllOf}
use Rattle.walrus_parse_laws.proofs.LocalsNameLemmas.{Below}

-- ---- old numbers in the order of the new ones

pub get_front : (xs ys : List ℕ) (n : ℕ) → n < length xs → slice_get (xs ++ ys) n ≡ slice_get xs n
get_front [] ys n lt = absurd (omega (arith, lt))
get_front (x ∷ xs) ys zero lt = refl
get_front (x ∷ xs) ys (suc n) lt = get_front xs ys n (omega (arith, lt))

pub get_behind : (xs ys : List ℕ) (i n : ℕ) → n ≡ length xs + i → slice_get (xs ++ ys) n ≡ slice_get ys i
get_behind [] ys i n e = ap (slice_get ys) (omega (arith, e))
get_behind (x ∷ xs) ys i zero e = absurd (omega (arith, e))
get_behind (x ∷ xs) ys i (suc n) e = get_behind xs ys i n (omega (arith, e))

get_range : (from count n : ℕ) → n < count → slice_get (range_with_len from count) n ≡ Some (from + n)
get_range from zero n lt = absurd (omega (arith, lt))
get_range from (suc count) zero lt = ap (λ (m : ℕ). Some m) (omega arith)
get_range from (suc count) (suc n) lt = get_range (from + 1) count n (omega (arith, lt)) ∙ ap (λ (m : ℕ). Some m) (omega arith)

-- at its new number stands a parameter, or a local that is among the used ones
pub at_new_number : (params : ℕ) (keys : List Key) (n : ℕ) → (params ≤ n → has (numbers keys) n ≡ true) → slice_get (range_with_len 0 params ++ numbers keys) (new_number params keys n) ≡ Some n
at_new_number params keys n h = elim (cases_lt n params) as (λ _. slice_get (range_with_len 0 params ++ numbers keys) (new_number params keys n) ≡ Some n) [
  | inl lt ↦ ap (λ (b : Bool). slice_get (range_with_len 0 params ++ numbers keys) (if b then n else params + position keys n)) (lt-ltb n params lt)
      ∙ get_front (range_with_len 0 params) (numbers keys) n (let many = length-range_with_len 0 params in omega (arith, lt, many))
      ∙ get_range 0 params n lt ∙ ap (λ (m : ℕ). Some m) (omega arith)
  | inr le ↦ ap (λ (b : Bool). slice_get (range_with_len 0 params ++ numbers keys) (if b then n else params + position keys n)) (le-ltb n params le)
      ∙ get_behind (range_with_len 0 params) (numbers keys) (position keys n) (params + position keys n) (let many = length-range_with_len 0 params in omega (arith, many))
      ∙ at_position keys n (h le)
]

-- a used one that isn't a parameter is there
pub used_has : (test : ℕ → Bool) (params : ℕ) (tys : List ValType) (n : ℕ) → params ≤ n → n < params + length tys → test n ≡ true → has (numbers (in_order (passing test (numbered params tys)))) n ≡ true
used_has test params tys n le lt e = has_order (passing test (numbered params tys)) n ∙ has_passing test params tys n le lt e

pub has_below : (total : ℕ) (ns : List ℕ) (n : ℕ) → AllOf (Below total) ns → has ns n ≡ true → n < total
has_below total [] n h e = absurd cc
has_below total (m ∷ ns) n h e = go (m == n) refl e (has_below total ns n h.1)
  where
    go : (b : Bool) → (m == n) ≡ b → (b || has ns n) ≡ true → (has ns n ≡ true → n < total) → n < total
    go true same e later = subst (Below total) (eqb-true m n same) h.0
    go false same e later = later e

pub got : (r : ℕ → ℕ) (olds : List ℕ) (i n : ℕ) → slice_get olds i ≡ Some n → slice_get (map r olds) i ≡ Some (r n)
got r olds i n e = slice_get-map r olds i ∙ ap (option_map r) e

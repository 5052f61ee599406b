-- Lemmas: the ids of locals that are added one behind another.
use Rattle.std.specs.Prelude.{ℕ, zero, suc, ◌≡◌, ◌<◌, ◌≤◌, ◌+◌, ◌||◌, Bool, true, false, List, [], ◌∷◌, ◌++◌, length, map, Some, slice_get, refl}
use Rattle.std.specs.List.{range_with_len}
use Rattle.std.proofs.Common.{ap, sym, ◌∙◌, arith, inl, inr}
use Rattle.std.proofs.lemmas.Bool.{cases_eq, eq-eqb, ne_eqb}
use Rattle.std.proofs.lemmas.List.{map-append}
use Rattle.walrus_named_bodies.specs.walrus_file_bodies.walrus_items_into.walrus_module_bodies.walrus_body_trees.walrus_meaning.walrus_local_function.walrus_body_locals.Locals.{ids_from, locals_from}
use Rattle.walrus_named_bodies.specs.walrus_file_bodies.walrus_body_trees.walrus_body_nesting.wasm_body_grammar.wasm_grammar.walrus_forms.declared.value.ValType.{ValType}
use Rattle.walrus_named_bodies.specs.walrus_file_bodies.walrus_items_into.walrus_module_bodies.walrus_body_trees.walrus_meaning.walrus_body_writer.walrus_pairing.walrus_items.declared.local.Local.{Local}
use Rattle.walrus_named_bodies.specs.walrus_item_names.Names.{bare_local}
use Rattle.walrus_parse_laws.proofs.KeyLemmas.{has}

-- ---- ids

pub many_ids : (first : ℕ) (tys : List ValType) → length (ids_from first tys) ≡ length tys
many_ids first [] = refl
many_ids first (ty ∷ tys) = ap suc (many_ids (suc first) tys)

pub get_id : (first : ℕ) (tys : List ValType) (n : ℕ) → n < length tys → slice_get (ids_from first tys) n ≡ Some (first + n)
get_id first [] n lt = absurd (omega (arith, lt))
get_id first (ty ∷ tys) zero lt = ap (λ (m : ℕ). Some m) (omega arith)
get_id first (ty ∷ tys) (suc n) lt = get_id (suc first) tys n (omega (arith, lt)) ∙ ap (λ (m : ℕ). Some m) (omega arith)

pub has_own : (first : ℕ) (tys : List ValType) (k : ℕ) → first ≤ k → k < first + length tys → has (ids_from first tys) k ≡ true
has_own first [] k le lt = absurd (omega (arith, le, lt))
has_own first (ty ∷ tys) k le lt = elim (cases_eq first k) as (λ _. has (ids_from first (ty ∷ tys)) k ≡ true) [
  | inl e ↦ ap (λ (b : Bool). b || has (ids_from (suc first) tys) k) (eq-eqb first k e)
  | inr n ↦ ap (λ (b : Bool). b || has (ids_from (suc first) tys) k) (ne_eqb first k n) ∙ has_own (suc first) tys k (omega (arith, le, n)) (omega (arith, lt))
]

pub has_no_other : (first : ℕ) (tys : List ValType) (k : ℕ) → first + length tys ≤ k → has (ids_from first tys) k ≡ false
has_no_other first [] k le = refl
has_no_other first (ty ∷ tys) k le =
    ap (λ (b : Bool). b || has (ids_from (suc first) tys) k) (ne_eqb first k (λ e. omega (arith, le, e))) ∙ has_no_other (suc first) tys k (omega (arith, le))

-- each is that of its number
pub ids_by_number : (r : ℕ → ℕ) (first n at : ℕ) (tys : List ValType) → at ≡ first + n → ((k : ℕ) → n ≤ k → k < n + length tys → r k ≡ first + k) → ids_from at tys ≡ map r (range_with_len n (length tys))
ids_by_number r first n at [] e h = refl
ids_by_number r first n at (ty ∷ tys) e h =
    ap (λ (m : ℕ). m ∷ ids_from (suc at) tys) (e ∙ sym (h n (omega arith) (omega arith)))
    ∙ ap (λ (l : List ℕ). r n ∷ l) (ids_by_number r first (n + 1) (suc at) tys (omega (arith, e)) (λ k le lt. h k (omega (arith, le)) (omega (arith, lt))))

-- ---- types

abbrev pub types_of : List Local → List ValType
types_of ls = map (λ (l : Local). l.ty) ls

types_from : (first : ℕ) (tys : List ValType) → types_of (locals_from first tys) ≡ tys
types_from first [] = refl
types_from first (ty ∷ tys) = ap (λ (l : List ValType). ty ∷ l) (types_from (suc first) tys)

pub many_from : (first : ℕ) (tys : List ValType) → length (locals_from first tys) ≡ length tys
many_from first [] = refl
many_from first (ty ∷ tys) = ap suc (many_from (suc first) tys)

pub types_joined : (before more : List Local) (first second : ℕ) (params own : List ValType) → types_of (before ++ (locals_from first params ++ (locals_from second own ++ more))) ≡ types_of before ++ (params ++ (own ++ types_of more))
types_joined before more first second params own =
    map-append (λ (l : Local). l.ty) before (locals_from first params ++ (locals_from second own ++ more))
    ∙ ap (λ (l : List ValType). types_of before ++ l) (
    map-append (λ (l : Local). l.ty) (locals_from first params) (locals_from second own ++ more)
    ∙ ap (λ (l : List ValType). l ++ types_of (locals_from second own ++ more)) (types_from first params)
    ∙ ap (λ (l : List ValType). params ++ l) (map-append (λ (l : Local). l.ty) (locals_from second own) more ∙ ap (λ (l : List ValType). l ++ types_of more) (types_from second own))
    )

types_bare : (ls : List Local) → types_of (map bare_local ls) ≡ types_of ls
types_bare [] = refl
types_bare (l ∷ ls) = ap (λ (ts : List ValType). l.ty ∷ ts) (types_bare ls)

-- names aside they have the same types
pub types_same : (ls ms : List Local) → map bare_local ls ≡ map bare_local ms → types_of ls ≡ types_of ms
types_same ls ms e = sym (types_bare ls) ∙ ap types_of e ∙ types_bare ms

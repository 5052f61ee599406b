-- Lemmas: runs of locals, joined before their types are renamed, are the maximal runs of the renamed types, where no number is that of two types.
use Rattle.std.specs.Prelude.{ℕ, suc, ◌≡◌, Bool, true, false, List, [], ◌∷◌, ◌++◌, length, map, Option, Some, None, Ok, Err, unwrap_or, if◌then◌else◌, refl}
use Rattle.std.specs.List.{flat_map}
use Rattle.std.specs.Option.{option_map, ok_or}
use Rattle.std.specs.Ordering.{is_eq}
use Rattle.std.specs.declared.cmp.Ordering.{Ordering}
use Rattle.std.specs.declared.cmp.Ordering.TheVariants.{Less, Equal, Greater}
use Rattle.std.proofs.Common.{ap, sym, ◌∙◌, subst}
use Rattle.wasm_ref_types.specs.declared.heap.AbstractHeapType.{AbstractHeapType as WrittenAbstract}
use Rattle.wasm_ref_types.specs.declared.heap.HeapType.{HeapType as WrittenHeap}
use Rattle.wasm_ref_types.specs.declared.heap.HeapType.TheVariants.{Abstract as WAbstract, Concrete as WConcrete, Exact as WExact}
use Rattle.wasm_ref_types.specs.declared.index.UnpackedIndex.TheVariants.{Module}
use Rattle.wasm_ref_types.specs.declared.value.ValType.{ValType as WrittenValue}
use Rattle.wasm_ref_types.specs.declared.value.ValType.TheVariants.{Ref as WRef}
use Rattle.wasm_ref_types.specs.Reference.{reference}
use Rattle.walrus_forms.specs.declared.value.AbstractHeapType.{AbstractHeapType}
use Rattle.walrus_forms.specs.declared.value.AbstractHeapType.TheVariants as kinds
use Rattle.walrus_forms.specs.declared.value.HeapType.{HeapType}
use Rattle.walrus_forms.specs.declared.value.HeapType.TheVariants.{Abstract, Shared, Concrete, Exact}
use Rattle.walrus_forms.specs.declared.value.RefType.{RefType}
use Rattle.walrus_forms.specs.declared.value.ValType.{ValType}
use Rattle.walrus_forms.specs.declared.value.ValType.TheVariants.{I32, I64, F32, F64, V128, Ref}
use Rattle.walrus_forms.specs.Renaming.{renamed_heap, renamed_value}
use Rattle.walrus_forms.specs.ValueOrder.{value_cmp}
use Rattle.walrus_forms.specs.Values.{heap_name, value_name}
use Rattle.wasm_operators.specs.Bytes.{unsigned_bytes, value_bytes}
use Rattle.wasm_grammar.specs.TypeWords.{abstract_from, heap_from, value_from}
use Rattle.wasm_normal_form.specs.Locals.{is_equal, runs_of}
use Rattle.wasm_normal_form.specs.Locals.{with_first as with_one}
use Rattle.wasm_body_grammar.specs.Bodies.{next_total, run}
use Rattle.wasm_body_grammar.specs.Bodies.{declared as declared_in}
use Rattle.wasm_body_grammar.specs.Rules.{Around}
use Rattle.wasm_format_bytes.specs.Lists.{entries_bytes}
use Rattle.wasm_grammar_bytes.specs.Bodies.{run_writer}
use Rattle.wasm_grammar_bytes.specs.Bodies.{runs_bytes as due_bytes}
use Rattle.wasm_grammar_bytes.specs.Runs.{AreMaximal}
use Rattle.wasm_grammar_bytes.specs.Maximal.{each_has_maximal_runs, maximal_of, with_first}
use Rattle.walrus_index_maps.specs.declared.space.Space.TheVariants as spaces
use Rattle.walrus_pairing.specs.declared.error.PairError.TheVariants as errors
use Rattle.walrus_pairing.specs.Looks.{Or, ◌>>=◌}
use Rattle.walrus_pairing.specs.Types.{written_abstract, written_heap, written_value}
use Rattle.walrus_local_numbers.specs.Written.{Run, WrittenRun, run_bytes, runs_bytes, written_runs}
use Rattle.walrus_code_laws.specs.Spelled.{IsOneToOne}

ok_same : {A : Type 0} (x y : A) → (let ok : A → Or A = λ z. Ok z in ok x ≡ ok y) → x ≡ y
ok_same x y e = cc

some_same : (m n : ℕ) → (let some : ℕ → Option ℕ = λ k. Some k in some m ≡ some n) → m ≡ n
some_same m n e = cc

-- ---- types that compare as equal are one

equal_one : (o : Ordering) → is_equal o ≡ is_eq o
equal_one Less = refl
equal_one Equal = refl
equal_one Greater = refl

heads : (a b : ValType) (xs ys : List ValType) → a ∷ xs ≡ b ∷ ys → a ≡ b
heads a b xs ys e = cc

tied_by : (a b : ValType) (c : Bool) → c ≡ true → declared_in (if c then (2, b) ∷ [] else (1, a) ∷ ((1, b) ∷ [])) ≡ a ∷ (b ∷ []) → a ≡ b
tied_by a b true e d = sym (heads b a (b ∷ []) (b ∷ []) d)
tied_by a b false e d = absurd cc

tied : (a b : ValType) → is_eq (value_cmp a b) ≡ true → a ≡ b
tied a b e = tied_by a b (is_eq (value_cmp a b)) e (each_has_maximal_runs (a ∷ (b ∷ []))).1

itself_by : (a : ValType) (c : Bool) → AreMaximal (if c then (2, a) ∷ [] else (1, a) ∷ ((1, a) ∷ [])) → c ≡ true
itself_by a true h = refl
itself_by a false h = absurd (h.1 refl)

same : (a b : ValType) → a ≡ b → is_eq (value_cmp a b) ≡ true
same a b e = subst (λ (c : ValType). is_eq (value_cmp a c) ≡ true) e (itself_by a (is_eq (value_cmp a a)) (each_has_maximal_runs (a ∷ (a ∷ []))).0)

-- ---- what is written for a type is the renamed one

abstract_same : (ty : AbstractHeapType) → written_abstract ty ≡ abstract_from ty
abstract_same kinds.Func = refl
abstract_same kinds.Extern = refl
abstract_same kinds.Any = refl
abstract_same kinds.None = refl
abstract_same kinds.NoExtern = refl
abstract_same kinds.NoFunc = refl
abstract_same kinds.Eq = refl
abstract_same kinds.Struct = refl
abstract_same kinds.Array = refl
abstract_same kinds.I31 = refl
abstract_same kinds.Exn = refl
abstract_same kinds.NoExn = refl

-- ---- runs

abbrev run_from : Run → WrittenRun
run_from x = (x.0, value_from x.1)

abbrev put : Run → WrittenValue → List WrittenRun → List WrittenRun
put x w us = (x.0, w) ∷ us

-- types by their numbers
module _ (r : ℕ → ℕ) (types : ℕ → Option ℕ) (follows : (id n : ℕ) → types id ≡ Some n → r id ≡ n) where
  -- what it names has its number
  abbrev IsNamed : Option ℕ → Type 0
  IsNamed o = (id : ℕ) → o ≡ Some id → types id ≡ Some (r id)

  named_at : (id n : ℕ) → types id ≡ Some n → IsNamed (Some id)
  named_at id n e other is =
      let one : id ≡ other = some_same id other is in
      subst (λ (k : ℕ). types k ≡ Some (r k)) one (e ∙ ap (λ (k : ℕ). Some k) (sym (follows id n e)))

  not_named : IsNamed None
  not_named id e = absurd cc

  concrete_is : (id : ℕ) (o : Option ℕ) (w : WrittenHeap) → types id ≡ o → (ok_or o (errors.Unknown spaces.«Type») >>= λ n. Ok (WConcrete (Module n))) ≡ Ok w
      → IsNamed (Some id) × (w ≡ WConcrete (Module (r id)))
  concrete_is id None w is e = absurd cc
  concrete_is id (Some n) w is e = (named_at id n is, sym (ok_same (WConcrete (Module n)) w e) ∙ ap (λ (k : ℕ). WConcrete (Module k)) (sym (follows id n is)))

  exact_is : (id : ℕ) (o : Option ℕ) (w : WrittenHeap) → types id ≡ o → (ok_or o (errors.Unknown spaces.«Type») >>= λ n. Ok (WExact (Module n))) ≡ Ok w
      → IsNamed (Some id) × (w ≡ WExact (Module (r id)))
  exact_is id None w is e = absurd cc
  exact_is id (Some n) w is e = (named_at id n is, sym (ok_same (WExact (Module n)) w e) ∙ ap (λ (k : ℕ). WExact (Module k)) (sym (follows id n is)))

  heap_is : (h : HeapType) (w : WrittenHeap) → written_heap types h ≡ Ok w → IsNamed (heap_name h) × (w ≡ heap_from (renamed_heap r h))
  heap_is (Abstract ty) w e = (not_named, sym (ok_same (WAbstract false (written_abstract ty)) w e) ∙ ap (λ (k : WrittenAbstract). WAbstract false k) (abstract_same ty))
  heap_is (Shared ty) w e = (not_named, sym (ok_same (WAbstract true (written_abstract ty)) w e) ∙ ap (λ (k : WrittenAbstract). WAbstract true k) (abstract_same ty))
  heap_is (Concrete id) w e = concrete_is id (types id) w refl e
  heap_is (Exact id) w e = exact_is id (types id) w refl e

  ref_is : (ty : RefType) (o : Or WrittenHeap) (w : WrittenValue) → written_heap types ty.heap_type ≡ o → (o >>= λ heap. Ok (WRef (reference ty.nullable heap))) ≡ Ok w
      → IsNamed (heap_name ty.heap_type) × (w ≡ value_from (renamed_value r (Ref ty)))
  ref_is ty (Err x) w is e = absurd cc
  ref_is ty (Ok h) w is e =
      let k = heap_is ty.heap_type h is in
      (k.0, sym (ok_same (WRef (reference ty.nullable h)) w e) ∙ ap (λ (h : WrittenHeap). WRef (reference ty.nullable h)) k.1)

  value_is : (ty : ValType) (w : WrittenValue) → written_value types ty ≡ Ok w → IsNamed (value_name ty) × (w ≡ value_from (renamed_value r ty))
  value_is I32 w e = (not_named, sym (ok_same (value_from I32) w e))
  value_is I64 w e = (not_named, sym (ok_same (value_from I64) w e))
  value_is F32 w e = (not_named, sym (ok_same (value_from F32) w e))
  value_is F64 w e = (not_named, sym (ok_same (value_from F64) w e))
  value_is V128 w e = (not_named, sym (ok_same (value_from V128) w e))
  value_is (Ref ty) w e = ref_is ty (written_heap types ty.heap_type) w refl e

  -- ---- runs that are written

  abbrev ren_run : Run → Run
  ren_run x = (x.0, renamed_value r x.1)

  abbrev AllNamed : List Run → Type 0
  AllNamed [] = Unit {0}
  AllNamed (x ∷ xs) = IsNamed (value_name x.1) × AllNamed xs

  written_by : (x : Run) (xs : List Run) (v : Or WrittenValue) (l : Or (List WrittenRun)) (ws : List WrittenRun) → written_value types x.1 ≡ v
      → ((us : List WrittenRun) → l ≡ Ok us → AllNamed xs × (us ≡ map run_from (map ren_run xs))) → (v >>= λ ty. l >>= λ rest. Ok (put x ty rest)) ≡ Ok ws
      → AllNamed (x ∷ xs) × (ws ≡ map run_from (map ren_run (x ∷ xs)))
  written_by x xs (Err z) l ws is later e = absurd cc
  written_by x xs (Ok ty) (Err z) ws is later e = absurd cc
  written_by x xs (Ok ty) (Ok us) ws is later e =
      let one = value_is x.1 ty is in
      let rest = later us refl in (
        (one.0, rest.0),
        sym (ok_same (put x ty us) ws e) ∙ ap (λ (w : WrittenValue). put x w us) one.1
            ∙ ap (λ (l : List WrittenRun). put x (value_from (renamed_value r x.1)) l) rest.1,
      )

  runs_written : (xs : List Run) (ws : List WrittenRun) → written_runs types xs ≡ Ok ws → AllNamed xs × (ws ≡ map run_from (map ren_run xs))
  runs_written [] ws e = (tt, sym (ok_same [] ws e))
  runs_written (x ∷ xs) ws e = written_by x xs (written_value types x.1) (written_runs types xs) ws refl (runs_written xs) e

  -- ---- no two types are renamed to one

  heap_back : (h : HeapType) → renamed_heap (λ _. unwrap_or (heap_name h) 0) (renamed_heap r h) ≡ h
  heap_back (Abstract ty) = refl
  heap_back (Shared ty) = refl
  heap_back (Concrete id) = refl
  heap_back (Exact id) = refl

  value_back : (ty : ValType) → renamed_value (λ _. unwrap_or (value_name ty) 0) (renamed_value r ty) ≡ ty
  value_back I32 = refl
  value_back I64 = refl
  value_back F32 = refl
  value_back F64 = refl
  value_back V128 = refl
  value_back (Ref ty) = ap (λ (h : HeapType). Ref (record { nullable = ty.nullable; heap_type = h })) (heap_back ty.heap_type)

  heap_name_is : (h : HeapType) → heap_name (renamed_heap r h) ≡ option_map r (heap_name h)
  heap_name_is (Abstract ty) = refl
  heap_name_is (Shared ty) = refl
  heap_name_is (Concrete id) = refl
  heap_name_is (Exact id) = refl

  name_is : (ty : ValType) → value_name (renamed_value r ty) ≡ option_map r (value_name ty)
  name_is I32 = refl
  name_is I64 = refl
  name_is F32 = refl
  name_is F64 = refl
  name_is V128 = refl
  name_is (Ref ty) = heap_name_is ty.heap_type

  module _ (one : IsOneToOne types) where
    names_one : (o p : Option ℕ) → IsNamed o → IsNamed p → option_map r o ≡ option_map r p → o ≡ p
    names_one None None h k e = refl
    names_one None (Some n) h k e = absurd cc
    names_one (Some m) None h k e = absurd cc
    names_one (Some m) (Some n) h k e = ap (λ (z : ℕ). Some z) (one m n (r m) (h m refl) (k n refl ∙ sym e))

    one_type : (a b : ValType) → IsNamed (value_name a) → IsNamed (value_name b) → renamed_value r a ≡ renamed_value r b → a ≡ b
    one_type a b h k e =
        let names : value_name a ≡ value_name b = names_one (value_name a) (value_name b) h k (sym (name_is a) ∙ ap value_name e ∙ name_is b) in
        sym (value_back a) ∙ ap (λ (o : Option ℕ). renamed_value (λ _. unwrap_or o 0) (renamed_value r a)) names
        ∙ ap (λ (ty : ValType). renamed_value (λ _. unwrap_or (value_name b) 0) ty) e ∙ value_back b

    -- ---- runs are joined as they are when their types are renamed

    joined_by : (ty : ValType) (x : Run) (xs : List Run) (c d : Bool) → is_equal (value_cmp ty x.1) ≡ c → is_eq (value_cmp (renamed_value r ty) (renamed_value r x.1)) ≡ d
        → AllNamed (if c then (suc x.0, x.1) ∷ xs else (1, ty) ∷ (x ∷ xs))
        → map ren_run (if c then (suc x.0, x.1) ∷ xs else (1, ty) ∷ (x ∷ xs))
        ≡ (if d then (suc x.0, renamed_value r x.1) ∷ map ren_run xs else (1, renamed_value r ty) ∷ (ren_run x ∷ map ren_run xs))
    joined_by ty x xs true true e f h = refl
    joined_by ty x xs false false e f h = refl
    joined_by ty x xs true false e f h =
        let is : ty ≡ x.1 = tied ty x.1 (sym (equal_one (value_cmp ty x.1)) ∙ e) in
        let clash : true ≡ false = sym (same (renamed_value r ty) (renamed_value r x.1) (ap (renamed_value r) is)) ∙ f in absurd cc
    joined_by ty x xs false true e f h =
        let rest : AllNamed (x ∷ xs) = h.1 in
        let is : ty ≡ x.1 = one_type ty x.1 h.0 rest.0 (tied (renamed_value r ty) (renamed_value r x.1) f) in
        let clash : true ≡ false = sym (same ty x.1 is) ∙ sym (equal_one (value_cmp ty x.1)) ∙ e in absurd cc

    joined_first : (ty : ValType) (xs : List Run) → AllNamed (with_one ty xs) → map ren_run (with_one ty xs) ≡ with_first (renamed_value r ty) (map ren_run xs)
    joined_first ty [] h = refl
    joined_first ty (x ∷ xs) h = joined_by ty x xs (is_equal (value_cmp ty x.1)) (is_eq (value_cmp (renamed_value r ty) (renamed_value r x.1))) refl refl h

    behind_by : (ty : ValType) (x : Run) (xs : List Run) (c : Bool) → AllNamed (if c then (suc x.0, x.1) ∷ xs else (1, ty) ∷ (x ∷ xs)) → AllNamed (x ∷ xs)
    behind_by ty x xs true h = h
    behind_by ty x xs false h = h.1

    behind : (ty : ValType) (xs : List Run) → AllNamed (with_one ty xs) → AllNamed xs
    behind ty [] h = tt
    behind ty (x ∷ xs) h = behind_by ty x xs (is_equal (value_cmp ty x.1)) h

    joined : (tys : List ValType) → AllNamed (runs_of tys) → map ren_run (runs_of tys) ≡ maximal_of (map (renamed_value r) tys)
    joined [] h = refl
    joined (ty ∷ tys) h = joined_first ty (runs_of tys) h ∙ ap (with_first (renamed_value r ty)) (joined tys (behind ty (runs_of tys) h))

-- ---- their bytes

abbrev run_of : Run → List ℕ
run_of x = unsigned_bytes x.0 ++ value_bytes (value_from x.1)

due_runs : (a : Around) (total : ℕ) (xs : List Run) → entries_bytes next_total (run a) (run_writer a) total xs ≡ flat_map run_of xs
due_runs a total [] = refl
due_runs a total (x ∷ xs) = ap (λ (l : List ℕ). run_of x ++ l) (due_runs a (next_total total x) xs)

from_runs : (xs : List Run) → flat_map run_bytes (map run_from xs) ≡ flat_map run_of xs
from_runs [] = refl
from_runs (x ∷ xs) = ap (λ (l : List ℕ). run_of x ++ l) (from_runs xs)

same_count : (xs : List Run) → length (map run_from xs) ≡ length xs
same_count [] = refl
same_count (x ∷ xs) = ap (λ (n : ℕ). suc n) (same_count xs)

-- what is written for the runs of types are the maximal runs of the renamed ones
pub runs_same : (a : Around) (params : ℕ) (r : ℕ → ℕ) (types : ℕ → Option ℕ) → ((id n : ℕ) → types id ≡ Some n → r id ≡ n) → IsOneToOne types → (tys : List ValType) (ws : List WrittenRun)
    → written_runs types (runs_of tys) ≡ Ok ws → runs_bytes ws ≡ due_bytes a params (maximal_of (map (renamed_value r) tys))
runs_same a params r types follows one tys ws e =
    let w = runs_written r types follows (runs_of tys) ws e in
    let news = maximal_of (map (renamed_value r) tys) in
    let is : ws ≡ map run_from news = w.1 ∙ ap (λ (l : List Run). map run_from l) (joined r types follows one tys w.0) in
    ap (λ (l : List WrittenRun). runs_bytes l) is
    ∙ ap (λ (n : ℕ). unsigned_bytes n ++ flat_map run_bytes (map run_from news)) (same_count news)
    ∙ ap (λ (l : List ℕ). unsigned_bytes (length news) ++ l) (from_runs news ∙ sym (due_runs a params news))

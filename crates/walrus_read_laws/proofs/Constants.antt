-- Lemmas: an operator of constant expressions that has a spelling, and whose names are found, is one of a constant expression in a module.
use Rattle.std.specs.Prelude.{ℕ, ◌≡◌, ◌⊎◌, nat_lt, true, false, List, [], ◌∷◌, length, Some, None, Ok, refl}
use Rattle.std.specs.Option.{option_and_then}
use Rattle.std.proofs.Common.{ap, sym, ◌∙◌, subst, inl, inr}
use Rattle.std.proofs.lemmas.Bool.{ltb-true}
use Rattle.walrus_tables_into.specs.walrus_sections_into.walrus_collections.walrus_local_function.walrus_body_locals.walrus_body_nesting.wasm_formats.wasm_features.declared.WasmFeatures.{WasmFeatures}
use Rattle.walrus_tables_into.specs.walrus_sections_into.walrus_collections.walrus_local_function.walrus_body_locals.walrus_body_nesting.wasm_formats.Stops.{Trouble}
use Rattle.walrus_tables_into.specs.walrus_sections_into.walrus_collections.walrus_local_function.walrus_body_locals.wasm_grammar.Exprs.{Known, is_constant, item_test, items_test, heap_test}
use Rattle.walrus_tables_into.specs.walrus_sections_into.walrus_collections.walrus_local_function.walrus_body_locals.wasm_grammar.TypeWords.{abstract_of, heap_of}
use Rattle.walrus_tables_into.specs.walrus_sections_into.walrus_collections.walrus_local_function.walrus_body_locals.wasm_grammar.Values.{must}
use Rattle.walrus_tables_into.specs.walrus_sections_into.walrus_collections.walrus_local_function.walrus_body_locals.wasm_grammar.wasm_operators.declared.entry.Kind.{Kind}
use Rattle.walrus_tables_into.specs.walrus_sections_into.walrus_collections.walrus_local_function.walrus_body_locals.wasm_grammar.wasm_operators.declared.entry.Kind.TheVariants as kinds
use Rattle.walrus_tables_into.specs.walrus_sections_into.walrus_collections.walrus_local_function.walrus_body_locals.wasm_grammar.wasm_operators.declared.op_code.OpCode.{OpCode}
use Rattle.walrus_tables_into.specs.walrus_sections_into.walrus_collections.walrus_local_function.walrus_body_locals.wasm_grammar.wasm_operators.Kinds.{forms}
use Rattle.walrus_tables_into.specs.walrus_sections_into.walrus_collections.walrus_local_function.walrus_body_locals.wasm_grammar.wasm_operators.Operators.{Seen, kind_of, op_code}
use Rattle.walrus_tables_into.specs.walrus_sections_into.walrus_collections.walrus_local_function.walrus_body_locals.wasm_grammar.wasm_operators.Table.{call_rows, plain_rows, fb_rows, fd_rows}
use Rattle.walrus_tables_into.specs.walrus_sections_into.walrus_collections.walrus_local_function.walrus_body_locals.wasm_grammar.wasm_operators.Items.{Space, Types, Functions, Globals, Item, Names, Number, S32, S64, Bits, Bytes, Heap}
use Rattle.walrus_tables_into.specs.walrus_sections_into.walrus_collections.walrus_local_function.walrus_body_locals.wasm_grammar.wasm_operators.wasm_ref_types.declared.heap.AbstractHeapType.{AbstractHeapType}
use Rattle.walrus_tables_into.specs.walrus_sections_into.walrus_collections.walrus_local_function.walrus_body_locals.wasm_grammar.wasm_operators.wasm_ref_types.declared.heap.AbstractHeapType.TheVariants as abstracts
use Rattle.walrus_tables_into.specs.walrus_sections_into.walrus_collections.walrus_local_function.walrus_body_locals.wasm_grammar.wasm_operators.wasm_ref_types.declared.heap.HeapType.{HeapType as WrittenHeap}
use Rattle.walrus_tables_into.specs.walrus_sections_into.walrus_collections.walrus_local_function.walrus_body_locals.wasm_grammar.wasm_operators.wasm_ref_types.declared.heap.HeapType.TheVariants.{Abstract as WAbstract, Concrete as WConcrete, Exact as WExact}
use Rattle.walrus_tables_into.specs.walrus_sections_into.walrus_collections.walrus_local_function.walrus_body_locals.wasm_grammar.wasm_operators.wasm_ref_types.declared.index.UnpackedIndex.TheVariants.{Module, RecGroup, Id}
use Rattle.wasm_spelled_modules.specs.wasm_module_rules.Keeps.{must_holds, first_none}
use Rattle.wasm_spelled_modules.specs.wasm_operators.Ranges.{Of, ItemsFit, OperatorFits}
use Rattle.walrus_tables_into.specs.walrus_sections_into.walrus_forms.declared.value.AbstractHeapType.{AbstractHeapType as OwnAbstract}
use Rattle.walrus_tables_into.specs.walrus_sections_into.walrus_forms.declared.value.AbstractHeapType.TheVariants as heaps
use Rattle.walrus_tables_into.specs.walrus_sections_into.walrus_forms.declared.value.HeapType.{HeapType}
use Rattle.walrus_tables_into.specs.walrus_sections_into.walrus_forms.declared.value.HeapType.TheVariants.{Abstract, Shared, Concrete, Exact}
use Rattle.walrus_tables_into.specs.walrus_sections_into.walrus_instr.declared.const_expr.ConstOp.{ConstOp}
use Rattle.walrus_tables_into.specs.walrus_sections_into.walrus_instr.declared.const_expr.ConstOp.TheVariants as consts
use Rattle.walrus_tables_into.specs.walrus_sections_into.walrus_instr.declared.instr.Value.TheVariants as values
use Rattle.walrus_tables_into.specs.walrus_sections_into.walrus_instr.Constants.{const_of}
use Rattle.walrus_tables_into.specs.walrus_sections_into.walrus_pairing.walrus_codes.Unary.{unary_bytes}
use Rattle.walrus_tables_into.specs.walrus_sections_into.walrus_pairing.walrus_codes.Binary.{binary_bytes}
use Rattle.walrus_tables_into.specs.walrus_sections_into.walrus_pairing.Looks.{Look}
use Rattle.walrus_tables_into.specs.walrus_sections_into.walrus_pairing.Types.{read_abstract, read_heap}
use Rattle.walrus_tables_into.specs.walrus_sections_into.walrus_pairing.Read.{name_at, counted_at, of_items}
use Rattle.wasm_spelled_modules.specs.Constants.{OfConstants}
use Rattle.wasm_spelled_modules.proofs.Codes.{constants_are_listed}
use Rattle.walrus_tables_into.specs.walrus_sections_into.Consts.{instr_const, plain_of}
use Rattle.walrus_read_laws.specs.Numbered.{AllFound, Finds}

kind_is : (k j : Kind) → Some k ≡ Some j → k ≡ j
kind_is k j e = cc

module _ (look : Look) (k : Known) (finds : Finds look k) where
  -- the operator of a constant expression that these code and items are
  abbrev pub Gives : OpCode → List Item → Type 0
  Gives code items = (c : ConstOp) × (option_and_then instr_const (plain_of (of_items look code items)) ≡ Some c)

  -- ---- names

  below_found : (space : Space) (count n : ℕ) (t : Trouble) → AllFound look space count → must (nat_lt n count) t ≡ None → (id : ℕ) × (look space n ≡ Some id)
  below_found space count n t all e = all n (ltb-true n count (must_holds (nat_lt n count) t e))

  abstract_found : (ty : AbstractHeapType) → ((kind : OwnAbstract) × (read_abstract ty ≡ Ok kind)) ⊎ (abstract_of ty ≡ None)
  abstract_found abstracts.Func = inl (heaps.Func, refl)
  abstract_found abstracts.Extern = inl (heaps.Extern, refl)
  abstract_found abstracts.Any = inl (heaps.Any, refl)
  abstract_found abstracts.None = inl (heaps.None, refl)
  abstract_found abstracts.NoExtern = inl (heaps.NoExtern, refl)
  abstract_found abstracts.NoFunc = inl (heaps.NoFunc, refl)
  abstract_found abstracts.Eq = inl (heaps.Eq, refl)
  abstract_found abstracts.Struct = inl (heaps.Struct, refl)
  abstract_found abstracts.Array = inl (heaps.Array, refl)
  abstract_found abstracts.I31 = inl (heaps.I31, refl)
  abstract_found abstracts.Exn = inl (heaps.Exn, refl)
  abstract_found abstracts.NoExn = inl (heaps.NoExn, refl)
  abstract_found abstracts.Cont = inr refl
  abstract_found abstracts.NoCont = inr refl

  heap_found : (ty : WrittenHeap) → heap_test k (heap_of ty) ≡ None → (h : HeapType) × (read_heap (look Types) ty ≡ Ok h)
  heap_found (WAbstract false ty) e =
      elim (abstract_found ty) as (λ _. (h : HeapType) × (read_heap (look Types) (WAbstract false ty) ≡ Ok h)) [
        | inl kind ↦ (Abstract kind.0, rw kind.1 refl)
        | inr none ↦ absurd (let e = rw none at e in cc)
      ]
  heap_found (WAbstract true ty) e =
      elim (abstract_found ty) as (λ _. (h : HeapType) × (read_heap (look Types) (WAbstract true ty) ≡ Ok h)) [
        | inl kind ↦ (Shared kind.0, rw kind.1 refl)
        | inr none ↦ absurd (let e = rw none at e in cc)
      ]
  heap_found (WConcrete (Module n)) e = let f = below_found Types k.types n _ finds.types e in (Concrete f.0, rw f.1 refl)
  heap_found (WConcrete (RecGroup n)) e = absurd cc
  heap_found (WConcrete (Id id)) e = absurd cc
  heap_found (WExact (Module n)) e = let f = below_found Types k.types n _ finds.types e in (Exact f.0, rw f.1 refl)
  heap_found (WExact (RecGroup n)) e = absurd cc
  heap_found (WExact (Id id)) e = absurd cc

  -- ---- the forms of items

  -- what is known of one item alone
  alone : (i : Item) → items_test k (i ∷ []) ≡ None → item_test k i ≡ None
  alone i e = (first_none (item_test k i) None e).0

  module _ (features : WasmFeatures) where
    -- so is each operator of this code
    abbrev Turns : OpCode → Type 0
    Turns code = (kind : Kind) → kind_of features code ≡ Some kind → (items : List Item) → ItemsFit features (forms kind) items → items_test k items ≡ None → Gives code items

    of_kind : (code : OpCode) (kind : Kind) → kind_of features code ≡ Some kind
        → ((items : List Item) → ItemsFit features (forms kind) items → items_test k items ≡ None → Gives code items) → Turns code
    of_kind code kind is f other other_is items fit known = f items (subst (λ (k : Kind). ItemsFit features (forms k) items) (kind_is other kind (sym other_is ∙ is)) fit) known

    bare : (code : OpCode) → kind_of features code ≡ Some kinds.Bare → Gives code [] → Turns code
    bare code is g = of_kind code kinds.Bare is (λ items fit known. subst (λ (l : List Item). Gives code l) (sym fit) g)

    -- one item, made of a value
    one : {A : Type 0} (make : A → Item) (Fits : A → Type 0) (code : OpCode) → ((x : A) → item_test k (make x) ≡ None → Gives code (make x ∷ []))
        → (items : List Item) → (x : Item) × (xs : List Item) × (items ≡ x ∷ xs) × Of make Fits x × (xs ≡ []) → items_test k items ≡ None → Gives code items
    one make Fits code f items fit known =
        let made = fit.3 in
        let same : items ≡ make made.0 ∷ [] = fit.2 ∙ ap (λ (l : List Item). fit.0 ∷ l) fit.4 ∙ ap (λ (i : Item). i ∷ []) made.1 in
        subst (λ (l : List Item). Gives code l) (sym same) (f made.0 (alone (make made.0) (subst (λ (l : List Item). items_test k l ≡ None) same known)))

    -- the name of a type
    typed : (code : OpCode) → kind_of features code ≡ Some kinds.Type → ((id : ℕ) → (c : ConstOp) × (option_and_then instr_const (name_at code Types id) ≡ Some c)) → Turns code
    typed code is f = of_kind code kinds.Type is (one (Names Types) _ code (λ n known. let t = below_found Types k.types n _ finds.types known in let c = f t.0 in (c.0, rw t.1 c.1)))

    sized : (code : OpCode) → ((id n : ℕ) → (c : ConstOp) × (option_and_then instr_const (counted_at code id n) ≡ Some c))
        → (items : List Item) → ItemsFit features (forms kinds.TypeNumber) items → items_test k items ≡ None → Gives code items
    sized code f items fit known =
        let made = fit.3 in
        let later = fit.4 in
        let size = later.3 in
        let same : items ≡ Names Types made.0 ∷ Number size.0 ∷ [] =
        fit.2 ∙ ap (λ (i : Item). i ∷ fit.1) made.1 ∙ ap (λ (l : List Item). Names Types made.0 ∷ l) (later.2 ∙ ap (λ (l : List Item). later.0 ∷ l) later.4 ∙ ap (λ (i : Item). i ∷ []) size.1) in
        let tests = subst (λ (l : List Item). items_test k l ≡ None) same known in
        let t = below_found Types k.types made.0 _ finds.types (first_none (item_test k (Names Types made.0)) _ tests).0 in
        let c = f t.0 size.0 in
        subst (λ (l : List Item). Gives code l) (sym same) (c.0, rw t.1 c.1)

    all_turn : OfConstants Turns
    unfolding kind_of plain_rows call_rows fb_rows fd_rows unary_bytes binary_bytes
    all_turn = record {
      global_get = of_kind (op_code 0 0x23) kinds.Global refl (one (Names Globals) _ (op_code 0 0x23)
          (λ n known. let t = below_found Globals (length k.globals) n _ finds.globals known in (consts.GlobalGet t.0, rw t.1 refl)));
      i32_const = of_kind (op_code 0 0x41) kinds.I32 refl (one S32 _ (op_code 0 0x41) (λ z known. (const_of (values.I32 z), refl)));
      i64_const = of_kind (op_code 0 0x42) kinds.I64 refl (one S64 _ (op_code 0 0x42) (λ z known. (const_of (values.I64 z), refl)));
      f32_const = of_kind (op_code 0 0x43) kinds.F32 refl (one (Bits 4) _ (op_code 0 0x43) (λ n known. (const_of (values.F32 n), refl)));
      f64_const = of_kind (op_code 0 0x44) kinds.F64 refl (one (Bits 8) _ (op_code 0 0x44) (λ n known. (const_of (values.F64 n), refl)));
      i32_add = bare (op_code 0 0x6a) refl (consts.I32Add, refl);
      i32_sub = bare (op_code 0 0x6b) refl (consts.I32Sub, refl);
      i32_mul = bare (op_code 0 0x6c) refl (consts.I32Mul, refl);
      i64_add = bare (op_code 0 0x7c) refl (consts.I64Add, refl);
      i64_sub = bare (op_code 0 0x7d) refl (consts.I64Sub, refl);
      i64_mul = bare (op_code 0 0x7e) refl (consts.I64Mul, refl);
      ref_null = of_kind (op_code 0 0xd0) kinds.Heap refl (one Heap _ (op_code 0 0xd0)
          (λ ty known. let h = heap_found ty known in (consts.RefNull (record { nullable = true; heap_type = h.0 }), rw h.1 refl)));
      ref_func = of_kind (op_code 0 0xd2) kinds.Function refl (one (Names Functions) _ (op_code 0 0xd2)
          (λ n known. let t = below_found Functions k.functions n _ finds.functions known in (consts.RefFunc t.0, rw t.1 refl)));
      struct_new = typed (op_code 0xfb 0) refl (λ id. (consts.StructNew id, refl));
      struct_new_default = typed (op_code 0xfb 1) refl (λ id. (consts.StructNewDefault id, refl));
      array_new = typed (op_code 0xfb 6) refl (λ id. (consts.ArrayNew id, refl));
      array_new_default = typed (op_code 0xfb 7) refl (λ id. (consts.ArrayNewDefault id, refl));
      array_new_fixed = of_kind (op_code 0xfb 8) kinds.TypeNumber refl (sized (op_code 0xfb 8) (λ id n. (consts.ArrayNewFixed id n, refl)));
      any_convert_extern = bare (op_code 0xfb 26) refl (consts.AnyConvertExtern, refl);
      extern_convert_any = bare (op_code 0xfb 27) refl (consts.ExternConvertAny, refl);
      ref_i31 = bare (op_code 0xfb 28) refl (consts.RefI31, refl);
      v128_const = of_kind (op_code 0xfd 12) kinds.Vector refl (one Bytes _ (op_code 0xfd 12) (λ bytes known. (const_of (values.V128 _), refl)));
    }

  -- an operator that has a spelling
  pub constant_gives : (features : WasmFeatures) (op : Seen) → OperatorFits features op → is_constant op.code ≡ true → items_test k op.items ≡ None → Gives op.code op.items
  constant_gives features op fits constant known = constants_are_listed (Turns features) (all_turn features) op.code constant fits.kind fits.listed op.items fits.items known

-- Lemmas: types come back, renamed.
use Rattle.std.specs.Prelude.{ℕ, ◌≡◌, true, false, Some, Ok, refl}
use Rattle.std.proofs.Common.{ap, subst, sym}
use Rattle.wasm_ref_types.specs.declared.heap.AbstractHeapType.{AbstractHeapType as WrittenAbstract}
use Rattle.wasm_ref_types.specs.declared.heap.AbstractHeapType.TheVariants as abstracts
use Rattle.wasm_ref_types.specs.declared.heap.HeapType.{HeapType as WrittenHeap}
use Rattle.wasm_ref_types.specs.declared.heap.HeapType.TheVariants.{Abstract as WAbstract, Concrete as WConcrete, Exact as WExact}
use Rattle.wasm_ref_types.specs.declared.index.UnpackedIndex.TheVariants.{Module, RecGroup, Id}
use Rattle.wasm_ref_types.specs.declared.value.ValType.{ValType as WrittenValue}
use Rattle.wasm_ref_types.specs.declared.value.ValType.TheVariants.{I32 as WI32, I64 as WI64, F32 as WF32, F64 as WF64, V128 as WV128, Ref as WRef}
use Rattle.wasm_operators.specs.Items.{Types}
use Rattle.wasm_operators.specs.Names.{Renaming, renamed_heap, renamed_value}
use Rattle.walrus_forms.specs.declared.value.AbstractHeapType.{AbstractHeapType}
use Rattle.walrus_forms.specs.declared.value.AbstractHeapType.TheVariants as kinds
use Rattle.walrus_forms.specs.declared.value.HeapType.{HeapType}
use Rattle.walrus_forms.specs.declared.value.HeapType.TheVariants.{Abstract, Shared}
use Rattle.walrus_forms.specs.declared.value.ValType.{ValType}
use Rattle.walrus_pairing.specs.Looks.{Look, ◌>>=◌, found}
use Rattle.walrus_pairing.specs.Types.{read_abstract, read_heap, read_value, written_abstract, written_heap, written_value}
use Rattle.walrus_pairing.specs.Laws.{Renames}
use Rattle.walrus_pairing.proofs.Facts.{ok_is, then_is, found_is}

module _ (rename : Renaming) (there back : Look) (renames : Renames rename there back) where
  abbrev Again : WrittenHeap → HeapType → Type 0
  Again w h = written_heap (back Types) h ≡ Ok (renamed_heap rename w)

  abstract_again : (ty : WrittenAbstract) (kind : AbstractHeapType) → read_abstract ty ≡ Ok kind → written_abstract kind ≡ ty
  abstract_again abstracts.Func kind e = ap written_abstract (sym (ok_is kinds.Func kind e))
  abstract_again abstracts.Extern kind e = ap written_abstract (sym (ok_is kinds.Extern kind e))
  abstract_again abstracts.Any kind e = ap written_abstract (sym (ok_is kinds.Any kind e))
  abstract_again abstracts.None kind e = ap written_abstract (sym (ok_is kinds.None kind e))
  abstract_again abstracts.NoExtern kind e = ap written_abstract (sym (ok_is kinds.NoExtern kind e))
  abstract_again abstracts.NoFunc kind e = ap written_abstract (sym (ok_is kinds.NoFunc kind e))
  abstract_again abstracts.Eq kind e = ap written_abstract (sym (ok_is kinds.Eq kind e))
  abstract_again abstracts.Struct kind e = ap written_abstract (sym (ok_is kinds.Struct kind e))
  abstract_again abstracts.Array kind e = ap written_abstract (sym (ok_is kinds.Array kind e))
  abstract_again abstracts.I31 kind e = ap written_abstract (sym (ok_is kinds.I31 kind e))
  abstract_again abstracts.Exn kind e = ap written_abstract (sym (ok_is kinds.Exn kind e))
  abstract_again abstracts.NoExn kind e = ap written_abstract (sym (ok_is kinds.NoExn kind e))
  abstract_again abstracts.Cont kind e = absurd cc
  abstract_again abstracts.NoCont kind e = absurd cc

  -- an id, looked up
  id_of_name : (n id : ℕ) → found there Types n ≡ Ok id → back Types id ≡ Some (rename Types n)
  id_of_name n id e = renames Types n id (found_is there Types n id e)

  pub heap_again : (w : WrittenHeap) (h : HeapType) → read_heap (there Types) w ≡ Ok h → Again w h
  heap_again (WAbstract false ty) h e =
      let got = then_is (read_abstract ty) (λ kind. Ok (Abstract kind)) h e in
      subst (Again (WAbstract false ty)) (ok_is _ h got.2) (ap (λ (w : WrittenAbstract). Ok (WAbstract false w)) (abstract_again ty got.0 got.1))
  heap_again (WAbstract true ty) h e =
      let got = then_is (read_abstract ty) (λ kind. Ok (Shared kind)) h e in
      subst (Again (WAbstract true ty)) (ok_is _ h got.2) (ap (λ (w : WrittenAbstract). Ok (WAbstract true w)) (abstract_again ty got.0 got.1))
  heap_again (WConcrete (Module n)) h e =
      let got = then_is (found there Types n) _ h e in
      subst (Again (WConcrete (Module n))) (ok_is _ h got.2) (rw (id_of_name n got.0 got.1) refl)
  heap_again (WConcrete (RecGroup n)) h e = absurd cc
  heap_again (WConcrete (Id id)) h e = absurd cc
  heap_again (WExact (Module n)) h e =
      let got = then_is (found there Types n) _ h e in
      subst (Again (WExact (Module n))) (ok_is _ h got.2) (rw (id_of_name n got.0 got.1) refl)
  heap_again (WExact (RecGroup n)) h e = absurd cc
  heap_again (WExact (Id id)) h e = absurd cc

  abbrev ValueAgain : WrittenValue → ValType → Type 0
  ValueAgain w v = written_value (back Types) v ≡ Ok (renamed_value rename w)

  pub value_again : (w : WrittenValue) (v : ValType) → read_value (there Types) w ≡ Ok v → ValueAgain w v
  value_again WI32 v e = subst (ValueAgain WI32) (ok_is _ v e) refl
  value_again WI64 v e = subst (ValueAgain WI64) (ok_is _ v e) refl
  value_again WF32 v e = subst (ValueAgain WF32) (ok_is _ v e) refl
  value_again WF64 v e = subst (ValueAgain WF64) (ok_is _ v e) refl
  value_again WV128 v e = subst (ValueAgain WV128) (ok_is _ v e) refl
  value_again (WRef ty) v e =
      let got = then_is (read_heap (there Types) ty.heap_type) _ v e in
      subst (ValueAgain (WRef ty)) (ok_is _ v got.2) (rw (heap_again ty.heap_type got.0 got.1) refl)

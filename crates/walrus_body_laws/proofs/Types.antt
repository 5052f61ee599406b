-- Lemmas: what types name that were read by a sight whose answers are good.
use Rattle.std.proofs.Common.{ℕ, ◌≡◌, Bool, true, false, List, [], ◌++◌, Option, Some, None, Ok, Err, refl, subst}
use Rattle.std.specs.Option.{ok_or}
use Rattle.walrus_handler_laws.specs.walrus_body_steps.wasm_body_grammar.wasm_formats.declared.fault.Space.TheVariants as spaces
use Rattle.wasm_operators.specs.wasm_ref_types.declared.heap.HeapType.{HeapType as WrittenHeap}
use Rattle.wasm_operators.specs.wasm_ref_types.declared.heap.HeapType.TheVariants.{Abstract as WAbstract, Concrete as WConcrete, Exact as WExact}
use Rattle.wasm_operators.specs.wasm_ref_types.declared.index.UnpackedIndex.{UnpackedIndex}
use Rattle.wasm_operators.specs.wasm_ref_types.declared.index.UnpackedIndex.TheVariants.{Module, RecGroup, Id}
use Rattle.wasm_operators.specs.wasm_ref_types.declared.value.ValType.{ValType as WrittenValue}
use Rattle.wasm_operators.specs.wasm_ref_types.declared.value.ValType.TheVariants.{I32 as WI32, I64 as WI64, F32 as WF32, F64 as WF64, V128 as WV128, Ref as WRef}
use Rattle.walrus_pairing.specs.wasm_operators.declared.block_type.BlockType.{BlockType}
use Rattle.walrus_pairing.specs.wasm_operators.declared.block_type.BlockType.TheVariants as blocks
use Rattle.walrus_pairing.specs.wasm_operators.Items.{Types}
use Rattle.walrus_walks.specs.walrus_forms.declared.value.AbstractHeapType.{AbstractHeapType}
use Rattle.walrus_walks.specs.walrus_forms.declared.value.HeapType.{HeapType}
use Rattle.walrus_walks.specs.walrus_forms.declared.value.HeapType.TheVariants.{Abstract, Shared, Concrete, Exact}
use Rattle.walrus_walks.specs.walrus_forms.declared.value.RefType.{RefType}
use Rattle.walrus_walks.specs.walrus_forms.declared.value.ValType.{ValType}
use Rattle.walrus_walks.specs.walrus_forms.declared.value.ValType.TheVariants.{I32, I64, F32, F64, V128, Ref}
use Rattle.walrus_marks.specs.walrus_instr.declared.seq.InstrSeqType.{InstrSeqType}
use Rattle.walrus_marks.specs.walrus_instr.declared.seq.InstrSeqType.TheVariants.{Simple, MultiValue}
use Rattle.walrus_walks.specs.Events.{Event, block_names, ref_names, val_names}
use Rattle.walrus_roots.specs.declared.item.Item.{Item}
use Rattle.walrus_roots.specs.Items.{item}
use Rattle.walrus_pairing.specs.walrus_index_maps.declared.space.Space.TheVariants as words
use Rattle.walrus_pairing.specs.declared.error.PairError.TheVariants as errors
use Rattle.walrus_pairing.specs.Looks.{Or, ◌>>=◌}
use Rattle.walrus_pairing.specs.Types.{read_abstract, read_heap, read_index, read_value}
use Rattle.walrus_handler_laws.specs.walrus_body_steps.walrus_body_rules.Sights.{Sight, block_of, function_block, handler_of, look, results_of, tag_params, value_block, value_list, written_block}
use Rattle.walrus_body_laws.specs.Answers.{AllAre, AnswersAre, value_items}
use Rattle.walrus_body_laws.proofs.Told.{Told, are_told, told_are, told_join}

abbrev pub good : {A : Type 0} → A → Or A
good x = Ok x

pub ok_is : {A : Type 0} (x y : A) → good x ≡ good y → x ≡ y
ok_is x y e = cc

pub some_is : {A : Type 0} (x y : A) → Some x ≡ Some y → x ≡ y
some_is x y e = cc

abbrev pub reference : Bool → HeapType → RefType
reference nullable heap = record { nullable = nullable; heap_type = heap }

module _ (s : Sight) (Good : Item → Type 0) (answers : AnswersAre s Good) where
  abbrev T : List Event → Type 0
  T es = Told Good es

  index_good : (w : UnpackedIndex) (id : ℕ) → read_index (look s Types) w ≡ Ok id → Good (item spaces.Type id)
  index_good (Module n) id e = answers.looked Types n id (go (look s Types n) e)
    where
      go : (o : Option ℕ) → ok_or o (errors.Unknown words.«Type») ≡ Ok id → o ≡ Some id
      go (Some x) e = cc
      go None e = absurd cc
  index_good (RecGroup n) id e = absurd cc
  index_good (Id n) id e = absurd cc

  -- a reference to a heap type
  abbrev Refers : HeapType → Type 0
  Refers h = (nullable : Bool) → T (ref_names (reference nullable h))

  of_abstract : (make : AbstractHeapType → HeapType) → ((kind : AbstractHeapType) → Refers (make kind)) → (o : Or AbstractHeapType) (h : HeapType) → (o >>= λ kind. Ok (make kind)) ≡ Ok h → Refers h
  of_abstract make silent (Ok kind) h e = subst Refers (ok_is (make kind) h e) (silent kind)
  of_abstract make silent (Err x) h e = absurd cc

  of_index : (make : ℕ → HeapType) → ((id : ℕ) → Good (item spaces.Type id) → Refers (make id)) → (w : UnpackedIndex) (o : Or ℕ) (h : HeapType) → read_index (look s Types) w ≡ o → (o >>= λ id. Ok (make id)) ≡ Ok h → Refers h
  of_index make named w (Ok id) h is e = subst Refers (ok_is (make id) h e) (named id (index_good w id is))
  of_index make named w (Err x) h is e = absurd cc

  pub heap_told : (w : WrittenHeap) (h : HeapType) → read_heap (look s Types) w ≡ Ok h → (nullable : Bool) → T (ref_names (reference nullable h))
  heap_told (WAbstract false ty) h e = of_abstract (λ kind. Abstract kind) (λ kind nullable. tt) (read_abstract ty) h e
  heap_told (WAbstract true ty) h e = of_abstract (λ kind. Shared kind) (λ kind nullable. tt) (read_abstract ty) h e
  heap_told (WConcrete index) h e = of_index (λ id. Concrete id) (λ id g nullable. ((g, tt), tt)) index (read_index (look s Types) index) h refl e
  heap_told (WExact index) h e = of_index (λ id. Exact id) (λ id g nullable. ((g, tt), tt)) index (read_index (look s Types) index) h refl e

  of_value : (v ty : ValType) → good v ≡ Ok ty → T (val_names v) → T (val_names ty)
  of_value v ty e h = subst (λ (x : ValType). T (val_names x)) (ok_is v ty e) h

  of_heap : (nullable : Bool) (w : WrittenHeap) (o : Or HeapType) (ty : ValType) → read_heap (look s Types) w ≡ o → (o >>= λ heap. Ok (Ref (reference nullable heap))) ≡ Ok ty → T (val_names ty)
  of_heap nullable w (Ok h) ty is e = of_value (Ref (reference nullable h)) ty e (heap_told w h is nullable)
  of_heap nullable w (Err x) ty is e = absurd cc

  value_told : (w : WrittenValue) (ty : ValType) → read_value (look s Types) w ≡ Ok ty → T (val_names ty)
  value_told WI32 ty e = of_value I32 ty e tt
  value_told WI64 ty e = of_value I64 ty e tt
  value_told WF32 ty e = of_value F32 ty e tt
  value_told WF64 ty e = of_value F64 ty e tt
  value_told WV128 ty e = of_value V128 ty e tt
  value_told (WRef r) ty e = of_heap r.nullable r.heap_type (read_heap (look s Types) r.heap_type) ty refl e

  -- ---- block types

  of_block : (ty found : InstrSeqType) → Some ty ≡ Some found → T (block_names ty) → T (block_names found)
  of_block ty found e h = subst (λ (x : InstrSeqType). T (block_names x)) (some_is ty found e) h

  of_read : (w : WrittenValue) (o : Or ValType) (ty : InstrSeqType) → read_value (look s Types) w ≡ o → value_block o ≡ Some ty → T (block_names ty)
  of_read w (Ok v) ty is e = of_block (Simple (Some v)) ty e (value_told w v is)
  of_read w (Err x) ty is e = absurd cc

  of_lists : (ps rs : Option (List ValType)) (ty : InstrSeqType) → ((tys : List ValType) → ps ≡ Some tys → AllAre Good (value_items tys)) → ((tys : List ValType) → rs ≡ Some tys → AllAre Good (value_items tys))
      → block_of s ps rs ≡ Some ty → T (block_names ty)
  of_lists (Some ps) (Some rs) ty p r e = are_told Good (block_names ty) (answers.blocks ps rs ty e (p ps refl) (r rs refl))
  of_lists (Some ps) None ty p r e = absurd cc
  of_lists None (Some rs) ty p r e = absurd cc
  of_lists None None ty p r e = absurd cc

  of_function : (o : Option ℕ) (ty : InstrSeqType) → function_block s o ≡ Some ty → T (block_names ty)
  of_function (Some id) ty e = of_lists (s.params id) (s.results id) ty (answers.params id) (answers.results id) e
  of_function None ty e = absurd cc

  pub written_told : (w : BlockType) (ty : InstrSeqType) → written_block s w ≡ Some ty → T (block_names ty)
  written_told blocks.Empty ty e = of_block (Simple None) ty e tt
  written_told (blocks.Value v) ty e = of_read v (read_value (look s Types) v) ty refl e
  written_told (blocks.Type n) ty e = of_function (look s Types n) ty e

  -- ---- handlers' types

  pub tag_good : (o : Option ℕ) (ps : List ValType) → tag_params s o ≡ Some ps → AllAre Good (value_items ps)
  tag_good (Some id) ps e = answers.params id ps e
  tag_good None ps e = absurd cc

  list_good : (v : Option ValType) → T (block_names (Simple v)) → AllAre Good (value_items (value_list v))
  list_good None h = told_are Good [] tt
  list_good (Some ty) h = told_are Good (val_names ty ++ []) (told_join Good (val_names ty) [] h tt)

  pub results_good : (ty : InstrSeqType) (rs : List ValType) → T (block_names ty) → results_of s ty ≡ Some rs → AllAre Good (value_items rs)
  results_good (Simple v) rs h e = subst (λ (tys : List ValType). AllAre Good (value_items tys)) (some_is (value_list v) rs e) (list_good v h)
  results_good (MultiValue id) rs h e = answers.results id rs e

  -- what holds of each type that it gives to handlers, holds of this one
  module _ (P : InstrSeqType → Type 0) (handled : (ps rs : List ValType) (ty : InstrSeqType) → s.handler_type ps rs ≡ Some ty → AllAre Good (value_items ps) → AllAre Good (value_items rs) → P ty) where
    pub handler_has : (ps rs : Option (List ValType)) (ty : InstrSeqType) → ((tys : List ValType) → ps ≡ Some tys → AllAre Good (value_items tys)) → ((tys : List ValType) → rs ≡ Some tys → AllAre Good (value_items tys))
        → handler_of s ps rs ≡ Some ty → P ty
    handler_has (Some ps) (Some rs) ty p r e = handled ps rs ty e (p ps refl) (r rs refl)
    handler_has (Some ps) None ty p r e = absurd cc
    handler_has None (Some rs) ty p r e = absurd cc
    handler_has None None ty p r e = absurd cc

-- Lemmas: the types of blocks by the ids that indices name.
use Rattle.std.specs.Prelude.{ℕ, ◌≡◌, Option, Some, None, Ok, Err, refl}
use Rattle.std.specs.Option.{option_map}
use Rattle.std.proofs.Common.{ap, sym, ◌∙◌}
use Rattle.walrus_named_bodies.specs.walrus_file_bodies.walrus_body_trees.walrus_pairing.wasm_operators.Items.{Types}
use Rattle.walrus_named_bodies.specs.walrus_file_bodies.walrus_body_trees.walrus_pairing.wasm_operators.declared.block_type.BlockType.{BlockType}
use Rattle.walrus_named_bodies.specs.walrus_file_bodies.walrus_body_trees.walrus_pairing.wasm_operators.declared.block_type.BlockType.TheVariants as blocks
use Rattle.walrus_named_bodies.specs.walrus_file_bodies.walrus_body_trees.walrus_body_nesting.wasm_body_grammar.wasm_operators.Names.{Renaming, renamed_block, renamed_value}
use Rattle.walrus_named_bodies.specs.walrus_file_bodies.walrus_body_trees.walrus_body_nesting.wasm_body_grammar.wasm_operators.wasm_ref_types.Reference.{reference}
use Rattle.walrus_named_bodies.specs.walrus_file_bodies.walrus_body_trees.walrus_body_nesting.wasm_body_grammar.wasm_operators.wasm_ref_types.declared.heap.HeapType.{HeapType as WrittenHeap}
use Rattle.walrus_named_bodies.specs.walrus_file_bodies.walrus_body_trees.walrus_body_nesting.wasm_body_grammar.wasm_operators.wasm_ref_types.declared.value.ValType.{ValType as WrittenValue}
use Rattle.walrus_named_bodies.specs.walrus_file_bodies.walrus_body_trees.walrus_body_nesting.wasm_body_grammar.wasm_operators.wasm_ref_types.declared.value.ValType.TheVariants as values
use Rattle.walrus_named_bodies.specs.walrus_file_bodies.walrus_items_into.walrus_module_bodies.walrus_body_trees.walrus_meaning.walrus_local_function.walrus_function_parser.walrus_body_rules.Sights.{Sight, look, value_block}
use Rattle.walrus_named_bodies.specs.walrus_file_bodies.walrus_body_trees.Laws.{IsNaming}
use Rattle.walrus_forms.specs.declared.value.HeapType.{HeapType}
use Rattle.walrus_forms.specs.declared.value.HeapType.TheVariants.{Abstract, Shared, Concrete, Exact}
use Rattle.walrus_forms.specs.declared.value.ValType.{ValType}
use Rattle.walrus_forms.specs.declared.value.ValType.TheVariants.{I32, I64, F32, F64, V128, Ref}
use Rattle.walrus_named_bodies.specs.walrus_file_bodies.walrus_body_trees.walrus_pairing.walrus_instr.declared.seq.InstrSeqType.{InstrSeqType}
use Rattle.walrus_named_bodies.specs.walrus_file_bodies.walrus_body_trees.walrus_pairing.walrus_instr.declared.seq.InstrSeqType.TheVariants.{Simple, MultiValue}
use Rattle.walrus_named_bodies.specs.walrus_file_bodies.walrus_items_into.walrus_module_bodies.walrus_body_trees.walrus_meaning.Words.{own_block, own_heap, own_value}
use Rattle.walrus_named_bodies.specs.walrus_file_bodies.walrus_items_into.walrus_module_env.Around.{block_named}
use Rattle.walrus_named_bodies.proofs.walrus_pairing.TypesAgain.{value_again}
use Rattle.walrus_named_bodies.specs.walrus_file_bodies.walrus_body_trees.walrus_pairing.Laws.{Renames, all}
use Rattle.walrus_named_bodies.specs.walrus_file_bodies.walrus_body_trees.walrus_pairing.Looks.{Or, ◌>>=◌}
use Rattle.walrus_named_bodies.specs.walrus_file_bodies.walrus_body_trees.walrus_pairing.Types.{read_value, written_heap, written_value}
use Rattle.walrus_parse_laws.proofs.ListLemmas.{some_is}

heap_written : (h : HeapType) → written_heap (all Types) h ≡ Ok (own_heap h)
heap_written (Abstract ty) = refl
heap_written (Shared ty) = refl
heap_written (Concrete id) = refl
heap_written (Exact id) = refl

value_written : (ty : ValType) → written_value (all Types) ty ≡ Ok (own_value ty)
value_written I32 = refl
value_written I64 = refl
value_written F32 = refl
value_written F64 = refl
value_written V128 = refl
value_written (Ref ty) = ap (λ (h : Or WrittenHeap). h >>= λ heap. Ok (values.Ref (reference ty.nullable heap))) (heap_written ty.heap_type)

abbrev good : WrittenValue → Or WrittenValue
good x = Ok x

same_value : (x y : WrittenValue) → good x ≡ good y → x ≡ y
same_value x y e = cc

module _ (s : Sight) (r : Renaming) (naming : IsNaming s r) where
  renames : Renames r (look s) all
  renames space n id e = ap (λ (m : ℕ). Some m) (sym (naming.ids space n id e))

  value_is : (w : WrittenValue) (v : ValType) → read_value (look s Types) w ≡ Ok v → own_value v ≡ renamed_value r w
  value_is w v e = same_value (own_value v) (renamed_value r w) (sym (value_written v) ∙ value_again r (look s) all renames w v e)

  of_value : (w : WrittenValue) (o : Or ValType) (ty : InstrSeqType) → read_value (look s Types) w ≡ o → value_block o ≡ Some ty → own_block ty ≡ blocks.Value (renamed_value r w)
  of_value w (Ok v) ty is e = ap own_block (sym (some_is (Simple (Some v)) ty e)) ∙ ap (λ (x : WrittenValue). blocks.Value x) (value_is w v is)
  of_value w (Err d) ty is e = absurd cc

  of_type : (n : ℕ) (o : Option ℕ) (ty : InstrSeqType) → look s Types n ≡ o → option_map MultiValue o ≡ Some ty → own_block ty ≡ blocks.Type (r Types n)
  of_type n (Some id) ty is e = ap own_block (sym (some_is (MultiValue id) ty e)) ∙ ap (λ (k : ℕ). blocks.Type k) (sym (naming.ids Types n id is))
  of_type n None ty is e = absurd cc

  -- the type of a block that is named so is written as its name, renamed
  pub block_own : (w : BlockType) (ty : InstrSeqType) → block_named s w ≡ Some ty → own_block ty ≡ renamed_block r w
  block_own blocks.Empty ty e = ap own_block (sym (some_is (Simple None) ty e))
  block_own (blocks.Value v) ty e = of_value v (read_value (look s Types) v) ty refl e
  block_own (blocks.Type n) ty e = of_type n (look s Types n) ty refl e

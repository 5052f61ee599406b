-- Lemmas: renamings that agree on what an operator names rename it alike.
use Rattle.std.specs.Prelude.{ℕ, ◌≡◌, List, [], ◌∷◌, map, refl}
use Rattle.std.specs.List.{AllByRecursion, flat_map}
use Rattle.std.proofs.Common.{ap, ◌∙◌}
use Rattle.wasm_ruled_renamed.proofs.wasm_ruled_normal.Tests.{all_split}
use Rattle.wasm_ruled_renamed.specs.wasm_ruled_normal.wasm_ruled_modules.wasm_module_rules.wasm_modules.wasm_body_grammar.wasm_operators.Names.{Name, Renaming, block_names, clause_names, heap_names, index_names, item_names, label_name, renamed_block, renamed_clause, renamed_heap, renamed_index, renamed_item, renamed_value, value_names}
use Rattle.wasm_ruled_renamed.specs.wasm_ruled_normal.wasm_ruled_modules.wasm_module_rules.wasm_modules.wasm_body_grammar.wasm_operators.Items.{Labels, Tags, Item, Names, Number, S32, S64, Bits, Byte, Bytes, Heap, Block, Access, ManyLabels, ManyValues, ManyClauses}
use Rattle.wasm_ruled_renamed.specs.wasm_ruled_normal.wasm_ruled_modules.wasm_module_rules.wasm_modules.wasm_body_grammar.wasm_operators.declared.block_type.BlockType.{BlockType}
use Rattle.wasm_ruled_renamed.specs.wasm_ruled_normal.wasm_ruled_modules.wasm_module_rules.wasm_modules.wasm_body_grammar.wasm_operators.declared.block_type.BlockType.TheVariants as blocks
use Rattle.wasm_ruled_renamed.specs.wasm_ruled_normal.wasm_ruled_modules.wasm_module_rules.wasm_modules.wasm_body_grammar.wasm_operators.declared.clause.Clause.{Clause}
use Rattle.wasm_ruled_renamed.specs.wasm_ruled_normal.wasm_ruled_modules.wasm_module_rules.wasm_modules.wasm_body_grammar.wasm_operators.declared.clause.Clause.TheVariants as handlers
use Rattle.wasm_ruled_renamed.specs.wasm_ruled_normal.wasm_ruled_modules.wasm_module_rules.wasm_modules.wasm_body_grammar.wasm_operators.wasm_ref_types.Reference.{reference}
use Rattle.wasm_ruled_renamed.specs.wasm_ruled_normal.wasm_ruled_modules.wasm_module_rules.wasm_modules.wasm_body_grammar.wasm_operators.wasm_ref_types.declared.heap.HeapType.{HeapType}
use Rattle.wasm_ruled_renamed.specs.wasm_ruled_normal.wasm_ruled_modules.wasm_module_rules.wasm_modules.wasm_body_grammar.wasm_operators.wasm_ref_types.declared.heap.HeapType.TheVariants.{Abstract, Concrete, Exact}
use Rattle.wasm_ruled_renamed.specs.wasm_ruled_normal.wasm_ruled_modules.wasm_module_rules.wasm_modules.wasm_body_grammar.wasm_operators.wasm_ref_types.declared.index.UnpackedIndex.{UnpackedIndex}
use Rattle.wasm_ruled_renamed.specs.wasm_ruled_normal.wasm_ruled_modules.wasm_module_rules.wasm_modules.wasm_body_grammar.wasm_operators.wasm_ref_types.declared.index.UnpackedIndex.TheVariants.{Module, RecGroup, Id}
use Rattle.wasm_ruled_renamed.specs.wasm_ruled_normal.wasm_ruled_modules.wasm_module_rules.wasm_modules.wasm_body_grammar.wasm_operators.wasm_ref_types.declared.value.ValType.{ValType}
use Rattle.wasm_ruled_renamed.specs.wasm_ruled_normal.wasm_ruled_modules.wasm_module_rules.wasm_modules.wasm_body_grammar.wasm_operators.wasm_ref_types.declared.value.ValType.TheVariants as values
use Rattle.wasm_ruled_renamed.specs.wasm_ruled_normal.wasm_ruled_modules.wasm_module_rules.wasm_modules.wasm_body_grammar.wasm_operators.Operators.{Seen}
use Rattle.wasm_normal_modules.specs.Numbered.{NamesDecide}

module _ (r s : Renaming) where
  abbrev Same : List Name → Type 0
  Same names = AllByRecursion (λ (n : Name). r n.0 n.1 ≡ s n.0 n.1) names

  index_alike : (i : UnpackedIndex) → Same (index_names i) → renamed_index r i ≡ renamed_index s i
  index_alike (Module n) h = ap Module h.0
  index_alike (RecGroup n) h = refl
  index_alike (Id id) h = refl

  heap_alike : (ty : HeapType) → Same (heap_names ty) → renamed_heap r ty ≡ renamed_heap s ty
  heap_alike (Abstract shared ty) h = refl
  heap_alike (Concrete i) h = ap Concrete (index_alike i h)
  heap_alike (Exact i) h = ap Exact (index_alike i h)

  value_alike : (ty : ValType) → Same (value_names ty) → renamed_value r ty ≡ renamed_value s ty
  value_alike values.I32 h = refl
  value_alike values.I64 h = refl
  value_alike values.F32 h = refl
  value_alike values.F64 h = refl
  value_alike values.V128 h = refl
  value_alike (values.Ref ty) h = ap (λ (heap : HeapType). values.Ref (reference ty.nullable heap)) (heap_alike ty.heap_type h)

  block_alike : (ty : BlockType) → Same (block_names ty) → renamed_block r ty ≡ renamed_block s ty
  block_alike blocks.Empty h = refl
  block_alike (blocks.Value ty) h = ap blocks.Value (value_alike ty h)
  block_alike (blocks.Type n) h = ap blocks.Type h.0

  clause_alike : (c : Clause) → Same (clause_names c) → renamed_clause r c ≡ renamed_clause s c
  clause_alike (handlers.Catch tag label) h = ap (λ (n : ℕ). handlers.Catch n (r Labels label)) h.0 ∙ ap (λ (n : ℕ). handlers.Catch (s Tags tag) n) h.1.0
  clause_alike (handlers.CatchRef tag label) h = ap (λ (n : ℕ). handlers.CatchRef n (r Labels label)) h.0 ∙ ap (λ (n : ℕ). handlers.CatchRef (s Tags tag) n) h.1.0
  clause_alike (handlers.CatchAll label) h = ap handlers.CatchAll h.0
  clause_alike (handlers.CatchAllRef label) h = ap handlers.CatchAllRef h.0

  labels_alike : (ns : List ℕ) → Same (map label_name ns) → map (r Labels) ns ≡ map (s Labels) ns
  labels_alike [] h = refl
  labels_alike (n ∷ ns) h = ap (λ (k : ℕ). k ∷ map (r Labels) ns) h.0 ∙ ap (λ (l : List ℕ). s Labels n ∷ l) (labels_alike ns h.1)

  all_alike : {A : Type 0} (names : A → List Name) (f g : A → A) → ((x : A) → Same (names x) → f x ≡ g x) → (xs : List A) → Same (flat_map names xs) → map f xs ≡ map g xs
  all_alike names f g one [] h = refl
  all_alike {A} names f g one (x ∷ xs) h =
      let both = all_split (λ (n : Name). r n.0 n.1 ≡ s n.0 n.1) (names x) (flat_map names xs) h in
      ap (λ (y : A). y ∷ map f xs) (one x both.0) ∙ ap (λ (l : List A). g x ∷ l) (all_alike names f g one xs both.1)

  item_alike : (x : Item) → Same (item_names x) → renamed_item r x ≡ renamed_item s x
  item_alike (Names space n) h = ap (Names space) h.0
  item_alike (Number n) h = refl
  item_alike (S32 z) h = refl
  item_alike (S64 z) h = refl
  item_alike (Bits size n) h = refl
  item_alike (Byte b) h = refl
  item_alike (Bytes run) h = refl
  item_alike (Heap ty) h = ap Heap (heap_alike ty h)
  item_alike (Block ty) h = ap Block (block_alike ty h)
  item_alike (Access a) h = ap (λ (n : ℕ). Access (record a { memory = n })) h.0
  item_alike (ManyLabels ns) h = ap ManyLabels (labels_alike ns h)
  item_alike (ManyValues tys) h = ap ManyValues (all_alike value_names (renamed_value r) (renamed_value s) value_alike tys h)
  item_alike (ManyClauses cs) h = ap ManyClauses (all_alike clause_names (renamed_clause r) (renamed_clause s) clause_alike cs h)

pub names_decide : NamesDecide
names_decide r s op h =
    ap (λ (items : List Item). (let o : Seen = record { code = op.code; items = items } in o)) (all_alike r s item_names (renamed_item r) (renamed_item s) (item_alike r s) op.items h)

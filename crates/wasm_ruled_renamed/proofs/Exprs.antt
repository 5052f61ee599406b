-- Lemmas: constant expressions that are known are known, renamed, where what they name has its image.
use Rattle.std.specs.Prelude.{ℕ, ◌≡◌, ◌==◌, ◌||◌, ◌&&◌, Bool, true, false, nat_lt, List, [], ◌∷◌, length, map, Option, Some, None, slice_index_or, refl, if◌then◌else◌}
use Rattle.std.specs.Option.{option_map}
use Rattle.std.proofs.lemmas.Bool.{lt-ltb, ltb-true}
use Rattle.walrus_forms.specs.declared.value.AbstractHeapType.{AbstractHeapType}
use Rattle.walrus_forms.specs.declared.value.HeapType.TheVariants as words
use Rattle.wasm_ruled_normal.specs.wasm_ruled_modules.wasm_module_rules.wasm_modules.wasm_body_grammar.wasm_formats.Stops.{Index, OffsetType}
use Rattle.wasm_ruled_normal.specs.wasm_ruled_modules.wasm_module_rules.wasm_modules.wasm_body_grammar.wasm_formats.declared.fault.Space.TheVariants as spaces
use Rattle.wasm_ruled_normal.specs.wasm_ruled_modules.wasm_module_rules.wasm_modules.wasm_body_grammar.wasm_grammar.Exprs.{Known, gives_address, global_is, heap_test, item_test, items_test, names_address, some_operators, space_test}
use Rattle.wasm_ruled_normal.specs.wasm_ruled_modules.wasm_module_rules.wasm_modules.wasm_body_grammar.wasm_grammar.Modules.{Expr}
use Rattle.wasm_ruled_normal.specs.wasm_ruled_modules.wasm_module_rules.wasm_modules.wasm_body_grammar.wasm_grammar.TypeWords.{abstract_of, heap_of}
use Rattle.wasm_ruled_normal.specs.wasm_ruled_modules.wasm_module_rules.wasm_modules.wasm_body_grammar.wasm_operators.Names.{Renaming, renamed_heap, renamed_item, renamed_operator}
use Rattle.wasm_ruled_normal.specs.wasm_ruled_modules.wasm_module_rules.wasm_modules.wasm_body_grammar.wasm_operators.Items.{Space, Types, Functions, Tables, Memories, Tags, Globals, ElementSegments, DataSegments, Locals, Labels, Item, Names, Number, S32, S64, Bits, Byte, Bytes, Heap, Block, Access, ManyLabels, ManyValues, ManyClauses}
use Rattle.wasm_ruled_normal.specs.wasm_ruled_modules.wasm_module_rules.wasm_modules.wasm_body_grammar.wasm_operators.wasm_ref_types.declared.heap.HeapType.{HeapType}
use Rattle.wasm_ruled_normal.specs.wasm_ruled_modules.wasm_module_rules.wasm_modules.wasm_body_grammar.wasm_operators.wasm_ref_types.declared.heap.HeapType.TheVariants.{Abstract, Concrete, Exact}
use Rattle.wasm_ruled_normal.specs.wasm_ruled_modules.wasm_module_rules.wasm_modules.wasm_body_grammar.wasm_operators.wasm_ref_types.declared.index.UnpackedIndex.TheVariants.{Module, RecGroup, Id}
use Rattle.wasm_ruled_normal.specs.wasm_ruled_modules.wasm_module_rules.wasm_modules.wasm_body_grammar.wasm_operators.Operators.{Seen}
use Rattle.wasm_ruled_normal.specs.wasm_ruled_modules.Rules.{AreKnown}
use Rattle.wasm_ruled_normal.specs.wasm_ruled_modules.wasm_module_rules.Keeps.{first_none, must_holds}
use Rattle.wasm_ruled_normal.proofs.Tests.{holds_must, none_first}
use Rattle.wasm_ruled_renamed.specs.Renamed.{Knows, RenamedExprsAreKnown, RenamedOffsetsFit}

module _ (r : Renaming) (k l : Known) (knows : Knows r k l) where
  type_known : (n : ℕ) → nat_lt n k.types ≡ true → nat_lt (r Types n) l.types ≡ true
  type_known n e = lt-ltb (r Types n) l.types (knows.types n (ltb-true n k.types e))

  space_known : (space : Space) (n : ℕ) → space_test k space n ≡ None → space_test l space (r space n) ≡ None
  space_known Types n e = holds_must (nat_lt (r Types n) l.types) (Index spaces.«Type») (type_known n (must_holds (nat_lt n k.types) (Index spaces.«Type») e))
  space_known Functions n e =
      holds_must (nat_lt (r Functions n) l.functions) (Index spaces.Function)
      (lt-ltb (r Functions n) l.functions (knows.functions n (ltb-true n k.functions (must_holds (nat_lt n k.functions) (Index spaces.Function) e))))
  space_known Globals n e =
      holds_must (nat_lt (r Globals n) (length l.globals)) (Index spaces.Global)
      (lt-ltb (r Globals n) (length l.globals) (knows.globals n (ltb-true n (length k.globals) (must_holds (nat_lt n (length k.globals)) (Index spaces.Global) e))))
  space_known Tables n e = refl
  space_known Memories n e = refl
  space_known Tags n e = refl
  space_known ElementSegments n e = refl
  space_known DataSegments n e = refl
  space_known Locals n e = refl
  space_known Labels n e = refl

  abstract_known : (o : Option AbstractHeapType) → heap_test k (option_map words.Abstract o) ≡ None → heap_test l (option_map words.Abstract o) ≡ None
  abstract_known None e = absurd cc
  abstract_known (Some ty) e = refl

  shared_known : (o : Option AbstractHeapType) → heap_test k (option_map words.Shared o) ≡ None → heap_test l (option_map words.Shared o) ≡ None
  shared_known None e = absurd cc
  shared_known (Some ty) e = refl

  heap_known : (ty : HeapType) → heap_test k (heap_of ty) ≡ None → heap_test l (heap_of (renamed_heap r ty)) ≡ None
  heap_known (Abstract false ty) e = abstract_known (abstract_of ty) e
  heap_known (Abstract true ty) e = shared_known (abstract_of ty) e
  heap_known (Concrete (Module n)) e = holds_must (nat_lt (r Types n) l.types) (Index spaces.«Type») (type_known n (must_holds (nat_lt n k.types) (Index spaces.«Type») e))
  heap_known (Concrete (RecGroup n)) e = absurd cc
  heap_known (Concrete (Id id)) e = absurd cc
  heap_known (Exact (Module n)) e = holds_must (nat_lt (r Types n) l.types) (Index spaces.«Type») (type_known n (must_holds (nat_lt n k.types) (Index spaces.«Type») e))
  heap_known (Exact (RecGroup n)) e = absurd cc
  heap_known (Exact (Id id)) e = absurd cc

  item_known : (x : Item) → item_test k x ≡ None → item_test l (renamed_item r x) ≡ None
  item_known (Names space n) e = space_known space n e
  item_known (Heap ty) e = heap_known ty e
  item_known (Number n) e = refl
  item_known (S32 z) e = refl
  item_known (S64 z) e = refl
  item_known (Bits size n) e = refl
  item_known (Byte b) e = refl
  item_known (Bytes run) e = refl
  item_known (Block ty) e = refl
  item_known (Access a) e = refl
  item_known (ManyLabels ns) e = refl
  item_known (ManyValues tys) e = refl
  item_known (ManyClauses cs) e = refl

  items_known : (xs : List Item) → items_test k xs ≡ None → items_test l (map (renamed_item r) xs) ≡ None
  items_known [] e = refl
  items_known (x ∷ xs) e =
      let both = first_none (item_test k x) (items_test k xs) e in none_first (item_test l (renamed_item r x)) (items_test l (map (renamed_item r) xs)) (item_known x both.0) (items_known xs both.1)

  operators_known : (ops : Expr) → AreKnown k ops → AreKnown l (map (renamed_operator r) ops)
  operators_known [] h = tt
  operators_known (op ∷ ops) h = (h.0, items_known op.items h.1, operators_known ops h.2)

some_stay : (r : Renaming) (ops : Expr) → some_operators ops ≡ true → some_operators (map (renamed_operator r) ops) ≡ true
some_stay r [] e = e
some_stay r (op ∷ ops) e = refl

pub exprs_renamed : RenamedExprsAreKnown
exprs_renamed r k l ops knows h = (operators_known r k l knows ops h.0, some_stay r ops h.1)

-- ---- offsets

module _ (r : Renaming) (wide : Bool) (k l : Known) (typed : (n : ℕ) → global_is wide (slice_index_or k.globals n None) ≡ true → global_is wide (slice_index_or l.globals (r Globals n) None) ≡ true) where
  names_one : (xs : List Item) → names_address wide k xs ≡ true → names_address wide l (map (renamed_item r) xs) ≡ true
  names_one (Names Globals n ∷ []) e = typed n e
  names_one [] e = absurd cc
  names_one (Names Globals n ∷ (x ∷ xs)) e = absurd cc
  names_one (Names Types n ∷ xs) e = absurd cc
  names_one (Names Functions n ∷ xs) e = absurd cc
  names_one (Names Tables n ∷ xs) e = absurd cc
  names_one (Names Memories n ∷ xs) e = absurd cc
  names_one (Names Tags n ∷ xs) e = absurd cc
  names_one (Names ElementSegments n ∷ xs) e = absurd cc
  names_one (Names DataSegments n ∷ xs) e = absurd cc
  names_one (Names Locals n ∷ xs) e = absurd cc
  names_one (Names Labels n ∷ xs) e = absurd cc
  names_one (Number n ∷ xs) e = absurd cc
  names_one (S32 z ∷ xs) e = absurd cc
  names_one (S64 z ∷ xs) e = absurd cc
  names_one (Bits size n ∷ xs) e = absurd cc
  names_one (Byte b ∷ xs) e = absurd cc
  names_one (Bytes run ∷ xs) e = absurd cc
  names_one (Heap ty ∷ xs) e = absurd cc
  names_one (Block ty ∷ xs) e = absurd cc
  names_one (Access a ∷ xs) e = absurd cc
  names_one (ManyLabels ns ∷ xs) e = absurd cc
  names_one (ManyValues tys ∷ xs) e = absurd cc
  names_one (ManyClauses cs ∷ xs) e = absurd cc

  either : (constant get one other : Bool) → (one ≡ true → other ≡ true) → (constant || (get && one)) ≡ true → (constant || (get && other)) ≡ true
  either true get one other more e = refl
  either false true one other more e = more e
  either false false one other more e = absurd cc

  gives : (op : Seen) → gives_address wide k op ≡ true → gives_address wide l (renamed_operator r op) ≡ true
  gives op e =
      either (op.code.prefix == 0 && op.code.number == (if wide then 0x42 else 0x41)) (op.code.prefix == 0 && op.code.number == 0x23) (names_address wide k op.items) (names_address wide l (map (renamed_item r) op.items))
      (names_one op.items) e

pub offsets_renamed : RenamedOffsetsFit
offsets_renamed r wide k l [] typed e = refl
offsets_renamed r wide k l (op ∷ []) typed e =
    holds_must (gives_address wide l (renamed_operator r op)) OffsetType (gives r wide k l typed op (must_holds (gives_address wide k op) OffsetType e))
offsets_renamed r wide k l (op ∷ (next ∷ ops)) typed e = refl

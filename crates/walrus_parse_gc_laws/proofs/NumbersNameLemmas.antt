-- Lemmas: operators whose locals are renamed first, and then all else.
use Rattle.std.specs.Prelude.{ℕ, ◌≡◌, ◌==◌, ◌||◌, Bool, true, false, List, [], ◌∷◌, ◌++◌, map, refl}
use Rattle.std.specs.List.{AllByRecursion, flat_map, list_any}
use Rattle.std.proofs.Common.{ap, ◌∙◌}
use Rattle.std.proofs.lemmas.Bool.{eq-eqb}
use Rattle.wasm_body_grammar.specs.wasm_operators.NameLaws.{RenamesTwice, after}
use Rattle.wasm_body_grammar.specs.wasm_operators.Names.{Renaming, renamed_block, renamed_clause, renamed_heap, renamed_item, renamed_value}
use Rattle.wasm_body_grammar.specs.wasm_operators.Items.{Types, Functions, Tables, Memories, Tags, Globals, ElementSegments, DataSegments, Locals, Labels, Item, Names, Number, S32, S64, Bits, Byte, Bytes, Heap, Block, Access, ManyLabels, ManyValues, ManyClauses}
use Rattle.wasm_body_grammar.specs.wasm_operators.declared.block_type.BlockType.{BlockType}
use Rattle.wasm_body_grammar.specs.wasm_operators.declared.block_type.BlockType.TheVariants as blocks
use Rattle.wasm_body_grammar.specs.wasm_operators.declared.clause.Clause.{Clause}
use Rattle.wasm_body_grammar.specs.wasm_operators.declared.clause.Clause.TheVariants as handlers
use Rattle.wasm_body_grammar.specs.wasm_operators.wasm_ref_types.declared.heap.HeapType.{HeapType}
use Rattle.wasm_body_grammar.specs.wasm_operators.wasm_ref_types.declared.heap.HeapType.TheVariants.{Abstract, Concrete, Exact}
use Rattle.wasm_body_grammar.specs.wasm_operators.wasm_ref_types.declared.index.UnpackedIndex.TheVariants.{Module, RecGroup, Id}
use Rattle.wasm_body_grammar.specs.wasm_operators.wasm_ref_types.declared.value.ValType.{ValType}
use Rattle.wasm_body_grammar.specs.wasm_operators.wasm_ref_types.declared.value.ValType.TheVariants.{I32, I64, F32, F64, V128, Ref}
use Rattle.wasm_body_grammar.specs.wasm_operators.wasm_ref_types.Reference.{reference}
use Rattle.walrus_parse_laws.specs.walrus_meaning.walrus_local_function.walrus_body_locals.wasm_normal_form.Bodies.{local_in, locals_named, renamed_local, with_locals}
use Rattle.walrus_parse_laws.specs.walrus_meaning.walrus_local_function.walrus_body_locals.wasm_normal_form.Roles.{Placed, placed}
use Rattle.walrus_parse_laws.specs.walrus_body_trees.Laws.{renamed}
use Rattle.wasm_body_grammar.specs.wasm_operators.Operators.{Seen}
use Rattle.walrus_parse_gc_laws.specs.Texts.{but_locals}

-- ---- all that passes a test

or_true : (b : Bool) → (b || true) ≡ true
or_true true = refl
or_true false = refl

pub all_of : (P : ℕ → Type 0) (ns : List ℕ) → ((n : ℕ) → list_any (λ m. m == n) ns ≡ true → P n) → AllByRecursion P ns
all_of P [] h = tt
all_of P (n ∷ ns) h =
    (h n (ap (λ (b : Bool). b || list_any (λ m. m == n) ns) (eq-eqb n n refl)), all_of P ns (λ k e. h k (ap (λ (b : Bool). (n == k) || b) e ∙ or_true (n == k))))

split : (P : ℕ → Type 0) (xs ys : List ℕ) → AllByRecursion P (xs ++ ys) → AllByRecursion P xs × AllByRecursion P ys
split P [] ys h = (tt, h)
split P (x ∷ xs) ys h = let later = split P xs ys h.1 in ((h.0, later.0), later.1)

-- ---- items

module _ (r : Renaming) (number : ℕ → ℕ) where
  heap_is : (ty : HeapType) → renamed_heap r ty ≡ renamed_heap (but_locals r) ty
  heap_is (Abstract shared ty) = refl
  heap_is (Concrete (Module n)) = refl
  heap_is (Concrete (RecGroup n)) = refl
  heap_is (Concrete (Id id)) = refl
  heap_is (Exact (Module n)) = refl
  heap_is (Exact (RecGroup n)) = refl
  heap_is (Exact (Id id)) = refl

  value_is : (ty : ValType) → renamed_value r ty ≡ renamed_value (but_locals r) ty
  value_is I32 = refl
  value_is I64 = refl
  value_is F32 = refl
  value_is F64 = refl
  value_is V128 = refl
  value_is (Ref ty) = ap (λ (h : HeapType). Ref (reference ty.nullable h)) (heap_is ty.heap_type)

  block_is : (ty : BlockType) → renamed_block r ty ≡ renamed_block (but_locals r) ty
  block_is blocks.Empty = refl
  block_is (blocks.Value ty) = ap blocks.Value (value_is ty)
  block_is (blocks.Type n) = refl

  clause_is : (c : Clause) → renamed_clause r c ≡ renamed_clause (but_locals r) c
  clause_is (handlers.Catch tag label) = refl
  clause_is (handlers.CatchRef tag label) = refl
  clause_is (handlers.CatchAll label) = refl
  clause_is (handlers.CatchAllRef label) = refl

  labels_are : (ns : List ℕ) → map (r Labels) ns ≡ map (but_locals r Labels) ns
  labels_are [] = refl
  labels_are (n ∷ ns) = ap (λ (l : List ℕ). r Labels n ∷ l) (labels_are ns)

  values_are : (tys : List ValType) → map (renamed_value r) tys ≡ map (renamed_value (but_locals r)) tys
  values_are [] = refl
  values_are (ty ∷ tys) =
      ap (λ (t : ValType). t ∷ map (renamed_value r) tys) (value_is ty) ∙ ap (λ (l : List ValType). renamed_value (but_locals r) ty ∷ l) (values_are tys)

  clauses_are : (cs : List Clause) → map (renamed_clause r) cs ≡ map (renamed_clause (but_locals r)) cs
  clauses_are [] = refl
  clauses_are (c ∷ cs) =
      ap (λ (k : Clause). k ∷ map (renamed_clause r) cs) (clause_is c) ∙ ap (λ (l : List Clause). renamed_clause (but_locals r) c ∷ l) (clauses_are cs)

  -- the local has this number
  abbrev pub Comes : ℕ → Type 0
  Comes n = r Locals n ≡ number n

  item_is : (x : Item) → AllByRecursion Comes (local_in x) → renamed_item r x ≡ renamed_item (but_locals r) (renamed_local number x)
  item_is (Names Types n) h = refl
  item_is (Names Functions n) h = refl
  item_is (Names Tables n) h = refl
  item_is (Names Memories n) h = refl
  item_is (Names Tags n) h = refl
  item_is (Names Globals n) h = refl
  item_is (Names ElementSegments n) h = refl
  item_is (Names DataSegments n) h = refl
  item_is (Names Locals n) h = ap (Names Locals) h.0
  item_is (Names Labels n) h = refl
  item_is (Number n) h = refl
  item_is (S32 z) h = refl
  item_is (S64 z) h = refl
  item_is (Bits size n) h = refl
  item_is (Byte b) h = refl
  item_is (Bytes run) h = refl
  item_is (Heap ty) h = ap Heap (heap_is ty)
  item_is (Block ty) h = ap Block (block_is ty)
  item_is (Access a) h = refl
  item_is (ManyLabels ns) h = ap ManyLabels (labels_are ns)
  item_is (ManyValues tys) h = ap ManyValues (values_are tys)
  item_is (ManyClauses cs) h = ap ManyClauses (clauses_are cs)

  pub items_are : (xs : List Item) → AllByRecursion Comes (flat_map local_in xs) → map (renamed_item r) xs ≡ map (renamed_item (but_locals r)) (map (renamed_local number) xs)
  items_are [] h = refl
  items_are (x ∷ xs) h =
      let both = split Comes (local_in x) (flat_map local_in xs) h in
      ap (λ (y : Item). y ∷ map (renamed_item r) xs) (item_is x both.0) ∙ ap (λ (l : List Item). renamed_item (but_locals r) (renamed_local number x) ∷ l) (items_are xs both.1)

-- ---- operators

pub ops_are : RenamesTwice → (r s : Renaming) (number : ℕ → ℕ) (ops : List Placed) → AllByRecursion (Comes (after r s) number) (locals_named ops)
    → map (renamed r) (map (renamed s) ops) ≡ map (renamed (but_locals (after r s))) (map (with_locals number) ops)
ops_are twice r s number [] h = refl
ops_are twice r s number (o ∷ ops) h =
    let both = split (Comes (after r s) number) (flat_map local_in o.op.items) (locals_named ops) h in
    ap (λ (op : Seen). placed op o.place ∷ map (renamed r) (map (renamed s) ops)) (twice s r o.op)
    ∙ ap (λ (xs : List Item). (let op : Seen = record { code = o.op.code; items = xs } in placed op o.place) ∷ map (renamed r) (map (renamed s) ops)) (items_are (after r s) number o.op.items both.0)
    ∙ ap (λ (l : List Placed). renamed (but_locals (after r s)) (with_locals number o) ∷ l) (ops_are twice r s number ops both.1)

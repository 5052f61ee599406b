-- Lemmas: instructions of operators that hold no exact heap type hold none, and the blocks that they open are of such types.
use Rattle.std.proofs.Common.{ap, inl, inr, subst, sym, ◌∙◌}
use Rattle.std.specs.List.{AllByRecursion}
use Rattle.std.specs.Prelude.{if◌then◌else◌, Bool, Err, List, None, Ok, Option, Some, [], false, length, nat_le, nat_lt, refl, slice_get, suc, true, zero, ℕ, ◌%◌, ◌&&◌, ◌+◌, ◌-◌, ◌/◌, ◌==◌, ◌∷◌, ◌≡◌}
use Rattle.walrus_parse_laws.specs.walrus_named_bodies.walrus_file_bodies.walrus_items_into.walrus_module_env.walrus_body_parser.walrus_body_rules.Sights.{Sight, look, results_of, block_of, function_block, value_block, written_block, handler_of}
use Rattle.walrus_parse_laws.specs.walrus_named_bodies.walrus_file_bodies.walrus_items_into.walrus_module_env.walrus_handler_types.walrus_body_steps.Meanings.{RunsAs, OpensOf, reference}
use Rattle.walrus_pass_laws.specs.walrus_exact.Exact.{heap_exact, instr_exact, val_exact}
use Rattle.walrus_parse_laws.specs.walrus_pairing.walrus_forms.declared.value.HeapType.TheVariants as heaps
use Rattle.walrus_parse_laws.specs.walrus_pairing.walrus_forms.declared.value.HeapType.{HeapType}
use Rattle.walrus_parse_laws.specs.walrus_pairing.walrus_forms.declared.value.ValType.TheVariants as values
use Rattle.walrus_parse_laws.specs.walrus_pairing.walrus_forms.declared.value.ValType.{ValType}
use Rattle.walrus_marks.specs.walrus_instr.declared.instr.Instr.TheVariants as instrs
use Rattle.walrus_marks.specs.walrus_instr.declared.instr.Instr.{Instr}
use Rattle.walrus_marks.specs.walrus_instr.declared.seq.InstrSeqType.TheVariants.{Simple, MultiValue}
use Rattle.walrus_marks.specs.walrus_instr.declared.seq.InstrSeqType.{InstrSeqType}
use Rattle.walrus_parse_laws.specs.walrus_pairing.walrus_codes.Runs.{Run as CodeRun, byte, in_runs}
use Rattle.walrus_parse_laws.specs.walrus_pairing.Laws.{OperatorComesBack, Renames, all}
use Rattle.walrus_parse_laws.specs.walrus_pairing.Looks.{Or, ◌>>=◌}
use Rattle.walrus_parse_laws.specs.walrus_pairing.Read.{at, of_bytes, of_objects, instr_at}
use Rattle.walrus_parse_laws.specs.walrus_pairing.Types.{read_value, written_value}
use Rattle.walrus_parse_laws.specs.walrus_pairing.Write.{either, operator_at, seen_of, heap as heap_op, op as written_op, cast_code, test_code}
use Rattle.walrus_parse_gc_laws.proofs.ValueLemmas.{InexactType, heap_false, operator_renamed, or_false, read_inexact, some_is, word_read}
use Rattle.walrus_marks.specs.walrus_walks.Tree.{children}
use Rattle.walrus_parse_laws.specs.walrus_named_bodies.walrus_file_bodies.walrus_items_into.walrus_module_env.walrus_body_parser.wasm_operators.wasm_features.declared.WasmFeatures.{WasmFeatures}
use Rattle.walrus_parse_laws.specs.walrus_pairing.wasm_operators.Items.{Types, Labels, Item, Names, Byte, Heap, ManyLabels, ManyValues}
use Rattle.walrus_parse_laws.specs.walrus_pairing.wasm_operators.declared.block_type.BlockType.TheVariants as blocks
use Rattle.walrus_parse_laws.specs.walrus_pairing.wasm_operators.declared.block_type.BlockType.{BlockType}
use Rattle.wasm_inexact_modules.specs.Inexact.{InexactBlock, InexactItem, InexactOperator, InexactValues, InexactWord}
use Rattle.walrus_parse_laws.specs.walrus_pairing.wasm_operators.Names.{Renaming, renamed_operator}
use Rattle.wasm_operators.specs.Ranges.{OperatorFits}
use Rattle.walrus_parse_laws.specs.walrus_named_bodies.walrus_file_bodies.walrus_items_into.walrus_module_env.walrus_body_parser.wasm_operators.Operators.{Seen}
use Rattle.walrus_parse_laws.specs.walrus_named_bodies.walrus_file_bodies.walrus_items_into.walrus_module_env.walrus_body_parser.wasm_operators.declared.op_code.OpCode.{OpCode}
use Rattle.walrus_parse_laws.specs.walrus_pairing.wasm_operators.wasm_ref_types.Reference.{reference as written_reference}
use Rattle.walrus_parse_laws.specs.walrus_pairing.wasm_operators.wasm_ref_types.declared.heap.HeapType.TheVariants as written
use Rattle.walrus_parse_laws.specs.walrus_pairing.wasm_operators.wasm_ref_types.declared.index.UnpackedIndex.TheVariants.{Module}
use Rattle.walrus_parse_laws.specs.walrus_pairing.wasm_operators.wasm_ref_types.declared.value.ValType.TheVariants as words
use Rattle.walrus_parse_laws.specs.walrus_pairing.wasm_operators.wasm_ref_types.declared.value.ValType.{ValType as WrittenValue}

-- ---- plain instructions

-- the instruction writes no exact heap type, and holds no sequence
abbrev pub IsLeaf : Instr → Type 0
IsLeaf i = (instr_exact i ≡ false) × (children i ≡ [])

abbrev Answer : Type 0
Answer = Or (Option Seen)

told_is : (x y : Seen) → ◌≡◌ {A = Answer} (Ok (Some x)) (Ok (Some y)) → x ≡ y
told_is x y e = cc

heap_leaf : (code : OpCode) (ty : HeapType) (x : Seen) → either (heap_op all code ty) (Ok None) ≡ Ok (Some x) → InexactOperator x → heap_exact ty ≡ false
heap_leaf code (heaps.Abstract kind) x e h = refl
heap_leaf code (heaps.Shared kind) x e h = refl
heap_leaf code (heaps.Concrete id) x e h = refl
heap_leaf code (heaps.Exact id) x e h =
    let same : seen_of code (Heap (written.Exact (Module id)) ∷ []) ≡ x = told_is (seen_of code (Heap (written.Exact (Module id)) ∷ [])) x e in
    absurd (subst InexactOperator (sym same) h).0

select_leaf : (ty : ValType) (x : Seen) → (written_value (all Types) ty >>= λ value. written_op (byte 0x1c) (ManyValues (value ∷ []) ∷ [])) ≡ Ok (Some x) → InexactOperator x → val_exact ty ≡ false
select_leaf values.I32 x e h = refl
select_leaf values.I64 x e h = refl
select_leaf values.F32 x e h = refl
select_leaf values.F64 x e h = refl
select_leaf values.V128 x e h = refl
select_leaf (values.Ref r) x e h = of_heap r.heap_type e
  where
    of_heap : (ty : HeapType) → (written_value (all Types) (values.Ref (record { nullable = r.nullable; heap_type = ty })) >>= λ value. written_op (byte 0x1c) (ManyValues (value ∷ []) ∷ [])) ≡ Ok (Some x) → heap_exact ty ≡ false
    of_heap (heaps.Abstract kind) e = refl
    of_heap (heaps.Shared kind) e = refl
    of_heap (heaps.Concrete id) e = refl
    of_heap (heaps.Exact id) e =
        let op = seen_of (byte 0x1c) (ManyValues (words.Ref (written_reference r.nullable (written.Exact (Module id))) ∷ []) ∷ []) in
        let same : op ≡ x = told_is op x e in
        let inner = (subst InexactOperator (sym same) h).0 in absurd inner.0

plain_leaf : (i : Instr) (x : Seen) → operator_at all i ≡ Ok (Some x) → InexactOperator x → IsLeaf i
unfolding operator_at
plain_leaf (instrs.Block k) x e h = absurd cc
plain_leaf (instrs.Loop k) x e h = absurd cc
plain_leaf (instrs.IfElse k j) x e h = absurd cc
plain_leaf (instrs.Try k cs) x e h = absurd cc
plain_leaf (instrs.TryTable k cs) x e h = absurd cc
plain_leaf (instrs.BrOnCast k from to) x e h = absurd cc
plain_leaf (instrs.BrOnCastFail k from to) x e h = absurd cc
plain_leaf (instrs.Select None) x e h = (refl, refl)
plain_leaf (instrs.Select (Some ty)) x e h = (select_leaf ty x e h, refl)
plain_leaf (instrs.RefNull ty) x e h = (heap_leaf (byte 0xd0) ty.heap_type x e h, refl)
plain_leaf (instrs.RefTest ty) x e h = (heap_leaf (test_code ty.nullable) ty.heap_type x e h, refl)
plain_leaf (instrs.RefCast ty) x e h = (heap_leaf (cast_code ty.nullable) ty.heap_type x e h, refl)
plain_leaf _ x e h = (refl, refl)

-- ---- rows

abbrev Leaves : List Instr → Type 0
Leaves [] = Unit {0}
Leaves (i ∷ is) = IsLeaf i × Leaves is

abbrev InAll : List (CodeRun Instr) → Type 0
InAll [] = Unit {0}
InAll (r ∷ rs) = Leaves r.ops × InAll rs

leaf_at : (is : List Instr) (n : ℕ) (i : Instr) → Leaves is → slice_get is n ≡ Some i → IsLeaf i
leaf_at [] n i h e = absurd cc
leaf_at (j ∷ is) zero i h e = let same : j ≡ i = cc in subst IsLeaf same h.0
leaf_at (j ∷ is) (suc n) i h e = leaf_at is n i h.1 e

runs_leaf : (rs : List (CodeRun Instr)) (n : ℕ) (i : Instr) → InAll rs → in_runs rs n ≡ Some i → IsLeaf i
runs_leaf [] n i h e = absurd cc
runs_leaf (r ∷ rs) n i h e = go (nat_le r.first n && nat_lt n (r.first + length r.ops)) e (runs_leaf rs n i h.1)
  where
    go : (c : Bool) → (if c then slice_get r.ops (n - r.first) else in_runs rs n) ≡ Some i → (in_runs rs n ≡ Some i → IsLeaf i) → IsLeaf i
    go true e later = leaf_at r.ops (n - r.first) i h.0 e
    go false e later = later e

bytes_leaf : (rs : List (CodeRun Instr)) (code : OpCode) (i : Instr) → InAll rs → of_bytes rs code ≡ Some i → IsLeaf i
bytes_leaf rs code i h e = go (code.prefix == 0) e
  where
    go : (c : Bool) → (if c then in_runs rs code.number else None) ≡ Some i → IsLeaf i
    go true e = runs_leaf rs code.number i h e
    go false e = absurd cc

objects_leaf : (rs os : List (CodeRun Instr)) (code : OpCode) (i : Instr) → InAll rs → InAll os → of_objects rs os code ≡ Some i → IsLeaf i
objects_leaf rs os code i h g e = go (code.prefix == 0xfb) e
  where
    go : (c : Bool) → (if c then in_runs os code.number else of_bytes rs code) ≡ Some i → IsLeaf i
    go true e = runs_leaf os code.number i g e
    go false e = bytes_leaf rs code i h e

-- ---- what stands in a sequence

-- an operator that holds no exact heap type, and fits its code
abbrev pub IsFine : WasmFeatures → Seen → Type 0
IsFine features op = InexactOperator op × OperatorFits features op

abbrev value_or : Option ℕ → ℕ
value_or (Some id) = id
value_or None = 0

module _ (s : Sight) where
  -- each number is renamed as it is looked up
  abbrev renames : Renaming
  renames space n = value_or (look s space n)

  renames_so : Renames renames (look s) all
  renames_so space n id e = ap (λ (o : Option ℕ). Some (value_or o)) (sym e)

  pub run_leaf : OperatorComesBack → (features : WasmFeatures) (around : List ℕ) (op : Seen) (i : Instr) → RunsAs s around op.code op.items i → IsFine features op → IsLeaf i
  run_leaf back features around op i h fine = go op.items refl h
    where
      go : (items : List Item) → op.items ≡ items → RunsAs s around op.code items i → IsLeaf i
      go (Names Labels n ∷ []) e (inl h) = subst IsLeaf (sym h.1) (refl, refl)
      go (Names Labels n ∷ []) e (inr (k, there, is)) =
          bytes_leaf (at 0x0c (instrs.Br k) ∷ at 0x0d (instrs.BrIf k) ∷ at 0xd5 (instrs.BrOnNull k) ∷ at 0xd6 (instrs.BrOnNonNull k) ∷ []) op.code i
          (((refl, refl), tt), (((refl, refl), tt), (((refl, refl), tt), (((refl, refl), tt), tt)))) is
      go (ManyLabels ns ∷ Names Labels n ∷ []) e (ks, k, are, there, is) = subst IsLeaf (sym is) (refl, refl)
      go (Byte b ∷ Names Labels n ∷ Heap x ∷ Heap y ∷ []) e (k, from, to, there, f, t, is) =
          let items = subst (AllByRecursion InexactItem) e fine.0 in
          let first = heap_false from (read_inexact (look s Types) x from f items.1.1.0) in
          let second = heap_false to (read_inexact (look s Types) y to t items.1.1.1.0) in
          let both = or_false (heap_exact from) (heap_exact to) first second in
          objects_leaf [] (at 24 (instrs.BrOnCast k (reference (b % 2 == 1) from) (reference (b / 2 % 2 == 1) to)) ∷ at 25 (instrs.BrOnCastFail k (reference (b % 2 == 1) from) (reference (b / 2 % 2 == 1) to)) ∷ []) op.code i tt
          (((both, refl), tt), (((both, refl), tt), tt)) is
      go _ e h =
          plain_leaf i (renamed_operator renames op)
          (back renames (look s) all renames_so features op i fine.1 (ap (λ items. instr_at (look s) (record { code = op.code; items = items })) e ∙ h)) (operator_renamed renames op fine.0)

  -- ---- block types

  -- what a body knows of types: their results are inexact, and so are block types of inexact results
  pub record Knows : Type 0 where
    pub results : (id : ℕ) (rs : List ValType) → s.results id ≡ Some rs → InexactValues rs
    pub blocks_are : (ps rs : List ValType) (ty : InstrSeqType) → s.block_type ps rs ≡ Some ty → InexactValues rs → InexactType ty
    pub handlers_are : (ps rs : List ValType) (ty : InstrSeqType) → s.handler_type ps rs ≡ Some ty → InexactValues rs → InexactType ty

  module _ (knows : Knows) where
    results_inexact : (ty : InstrSeqType) (rs : List ValType) → InexactType ty → results_of s ty ≡ Some rs → InexactValues rs
    results_inexact (Simple None) rs h e = subst InexactValues (some_is [] rs e) tt
    results_inexact (Simple (Some v)) rs h e = subst InexactValues (some_is (v ∷ []) rs e) (h, tt)
    results_inexact (MultiValue id) rs h e = knows.results id rs e

    pub handler_inexact : (o : Option (List ValType)) (ty own : InstrSeqType) → InexactType ty → handler_of s o (results_of s ty) ≡ Some own → InexactType own
    handler_inexact o ty own h e = go o (results_of s ty) refl e
      where
        go : (ps rs : Option (List ValType)) → results_of s ty ≡ rs → handler_of s ps rs ≡ Some own → InexactType own
        go (Some ps) (Some rs) is e = knows.handlers_are ps rs own e (results_inexact ty rs h is)
        go (Some ps) None is e = absurd cc
        go None (Some rs) is e = absurd cc
        go None None is e = absurd cc

    function_inexact : (id : ℕ) (ty : InstrSeqType) → block_of s (s.params id) (s.results id) ≡ Some ty → InexactType ty
    function_inexact id ty e = go (s.params id) (s.results id) refl e
      where
        go : (ps rs : Option (List ValType)) → s.results id ≡ rs → block_of s ps rs ≡ Some ty → InexactType ty
        go (Some ps) (Some rs) is e = knows.blocks_are ps rs ty e (knows.results id rs is)
        go (Some ps) None is e = absurd cc
        go None (Some rs) is e = absurd cc
        go None None is e = absurd cc

    value_inexact : (word : WrittenValue) (o : Or ValType) (ty : InstrSeqType) → read_value (look s Types) word ≡ o → value_block o ≡ Some ty → InexactWord word → InexactType ty
    value_inexact word (Ok v) ty is e h = subst InexactType (some_is (Simple (Some v)) ty e) (word_read (look s Types) word v is h)
    value_inexact word (Err d) ty is e h = absurd cc

    written_inexact : (w : BlockType) (ty : InstrSeqType) → InexactBlock w → written_block s w ≡ Some ty → InexactType ty
    written_inexact blocks.Empty ty h e = subst InexactType (some_is (Simple None) ty e) tt
    written_inexact (blocks.Value word) ty h e = value_inexact word (read_value (look s Types) word) ty refl e h
    written_inexact (blocks.Type n) ty h e = go (look s Types n) e
      where
        go : (o : Option ℕ) → function_block s o ≡ Some ty → InexactType ty
        go (Some id) e = function_inexact id ty e
        go None e = absurd cc

    pub opened_inexact : (op : Seen) (ty : InstrSeqType) → InexactOperator op → OpensOf s op ty → InexactType ty
    opened_inexact op ty h (w, more, items, is) = written_inexact w ty (subst (AllByRecursion InexactItem) items h).0 is

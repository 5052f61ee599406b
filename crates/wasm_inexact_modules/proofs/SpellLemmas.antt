-- Lemmas: what has a spelling is no exact heap type, and holds none.
use Rattle.std.specs.Prelude.{ℕ, zero, suc, ◌≡◌, Bool, true, false, List, [], ◌∷◌, ◌++◌, fold, length, Option, Some}
use Rattle.std.specs.List.{AllByRecursion, repeat}
use Rattle.std.proofs.Common.{subst, sym, inl, inr}
use Rattle.wasm_features.specs.declared.WasmFeatures.{WasmFeatures}
use Rattle.wasm_reader.specs.Items.{SpellsItems}
use Rattle.wasm_ref_types.specs.declared.heap.HeapType.{HeapType as WrittenHeap}
use Rattle.wasm_ref_types.specs.declared.heap.HeapType.TheVariants.{Abstract as WAbstract, Concrete as WConcrete, Exact as WExact}
use Rattle.wasm_ref_types.specs.declared.value.ValType.{ValType as WrittenValue}
use Rattle.wasm_ref_types.specs.declared.value.ValType.TheVariants as words
use Rattle.wasm_ref_types.specs.Reference.{Reference}
use Rattle.wasm_ref_types.specs.TypeSpellings.{SpellsHeap, SpellsReference, SpellsValue}
use Rattle.wasm_operators.specs.declared.block_type.BlockType.{BlockType}
use Rattle.wasm_operators.specs.declared.block_type.BlockType.TheVariants as blocks
use Rattle.wasm_operators.specs.Items.{Item, Form, index, number, s32, s64, bits, run, any_byte, below, zero_byte, heap, block, access, labels, values, clauses}
use Rattle.wasm_operators.specs.ItemSpellings.{SpellsBlock, SpellsForms, SpellsItem}
use Rattle.wasm_operators.specs.Operators.{Seen}
use Rattle.wasm_operators.specs.Kinds.{forms}
use Rattle.wasm_operators.specs.Spellings.{SpellsEither, SpellsOperator}
use Rattle.walrus_forms.specs.declared.value.HeapType.{HeapType}
use Rattle.walrus_forms.specs.declared.value.HeapType.TheVariants as heaps
use Rattle.walrus_forms.specs.declared.value.RefType.{RefType}
use Rattle.walrus_forms.specs.declared.value.ValType.{ValType}
use Rattle.walrus_forms.specs.declared.value.ValType.TheVariants as kinds
use Rattle.wasm_formats.specs.Bytes.{either_type}
use Rattle.wasm_formats.specs.Lists.{SpellsEntries}
use Rattle.wasm_grammar.specs.Modules.{Placed}
use Rattle.wasm_grammar.specs.States.{types_of}
use Rattle.wasm_grammar.specs.TypeWords.{ref_told, value_of, value_told, value_from, heap_from}
use Rattle.wasm_grammar.specs.Values.{ref_type, value_type}
use Rattle.wasm_body_grammar.specs.Rules.{Around}
use Rattle.wasm_body_grammar.specs.Bodies.{Parts, Point, Run as LocalRun, body, body_of, declared, is_closed, next_point, next_total, opened, operator, operator_in, placed, run as local_run}
use Rattle.wasm_inexact_modules.specs.Inexact.{InexactHeap, InexactRef, InexactValue, InexactValues, InexactWritten, InexactWord, InexactBlock, InexactItem, InexactOperator, InexactBody, ReadBodiesAreInexact}

-- ---- types

pub heap_inexact : (features : WasmFeatures) (bytes : List ℕ) (ty : WrittenHeap) → SpellsHeap features bytes ty → InexactWritten ty
heap_inexact features bytes (WAbstract shared kind) h = tt
heap_inexact features bytes (WConcrete name) h = tt
heap_inexact features bytes (WExact name) h = absurd h

reference_inexact : (features : WasmFeatures) (bytes : List ℕ) (r : Reference) → SpellsReference features bytes r → InexactWritten r.heap_type
reference_inexact features bytes r (inl h) = let inner = h.1 in heap_inexact features inner.0 r.heap_type inner.2
reference_inexact features bytes r (inr h) = heap_inexact features bytes r.heap_type h.2

pub word_inexact : (features : WasmFeatures) (bytes : List ℕ) (ty : WrittenValue) → SpellsValue features bytes ty → InexactWord ty
word_inexact features bytes words.I32 h = tt
word_inexact features bytes words.I64 h = tt
word_inexact features bytes words.F32 h = tt
word_inexact features bytes words.F64 h = tt
word_inexact features bytes words.V128 h = tt
word_inexact features bytes (words.Ref r) h = reference_inexact features bytes r h

-- a type that is told of one which isn't exact
heap_same : (ty : HeapType) → InexactWritten (heap_from ty) → InexactHeap ty
heap_same (heaps.Abstract kind) h = tt
heap_same (heaps.Shared kind) h = tt
heap_same (heaps.Concrete name) h = tt
heap_same (heaps.Exact name) h = absurd h

value_same : (ty : ValType) → InexactWord (value_from ty) → InexactValue ty
value_same kinds.I32 h = tt
value_same kinds.I64 h = tt
value_same kinds.F32 h = tt
value_same kinds.F64 h = tt
value_same kinds.V128 h = tt
value_same (kinds.Ref r) h = heap_same r.heap_type h

pub told_inexact : (x : WrittenValue) (ty : ValType) → value_of x ≡ Some ty → InexactWord x → InexactValue ty
told_inexact x ty e h = value_same ty (subst InexactWord (value_told x ty e) h)

pub value_inexact : (features : WasmFeatures) (types : ℕ) (bytes : List ℕ) (ty : ValType) → (value_type features types).spells bytes ty → InexactValue ty
value_inexact features types bytes ty h = told_inexact h.0 ty h.1 (word_inexact features bytes h.0 h.2)

pub ref_inexact : (features : WasmFeatures) (types : ℕ) (bytes : List ℕ) (ty : RefType) → (ref_type features types).spells bytes ty → InexactRef ty
ref_inexact features types bytes ty h =
    heap_same ty.heap_type (subst (λ (r : Reference). InexactWritten r.heap_type) (ref_told h.0 ty h.1) (reference_inexact features bytes h.0 h.2))

-- ---- operators

words_inexact : (features : WasmFeatures) (tys : List WrittenValue) (bytes : List ℕ) → SpellsItems (SpellsValue features) bytes tys → AllByRecursion InexactWord tys
words_inexact features [] bytes h = tt
words_inexact features (ty ∷ tys) bytes h = (word_inexact features h.0 ty h.3, words_inexact features tys h.1 h.4)

block_inexact : (features : WasmFeatures) (bytes : List ℕ) (ty : BlockType) → SpellsBlock features bytes ty → InexactBlock ty
block_inexact features bytes blocks.Empty h = tt
block_inexact features bytes (blocks.Value ty) h = word_inexact features bytes ty h
block_inexact features bytes (blocks.Type n) h = tt

item_inexact : (features : WasmFeatures) (form : Form) (bytes : List ℕ) (item : Item) → SpellsItem features form bytes item → InexactItem item
item_inexact features (index space) bytes item h = subst InexactItem (sym h.1) tt
item_inexact features number bytes item h = subst InexactItem (sym h.1) tt
item_inexact features s32 bytes item h = subst InexactItem (sym h.1) tt
item_inexact features s64 bytes item h = subst InexactItem (sym h.1) tt
item_inexact features (bits size) bytes item h = subst InexactItem (sym h.1) tt
item_inexact features (run size) bytes item h = subst InexactItem (sym h.1) tt
item_inexact features any_byte bytes item h = subst InexactItem (sym h.1) tt
item_inexact features (below bound) bytes item h = subst InexactItem (sym h.1) tt
item_inexact features zero_byte bytes item h = subst InexactItem (sym h.1) tt
item_inexact features heap bytes item h = subst InexactItem (sym h.1) (heap_inexact features bytes h.0 h.2)
item_inexact features block bytes item h = subst InexactItem (sym h.1) (block_inexact features bytes h.0 h.2)
item_inexact features access bytes item h = subst InexactItem (sym h.1) tt
item_inexact features labels bytes item h = subst InexactItem (sym h.1) tt
item_inexact features values bytes item h = let list = h.2 in subst InexactItem (sym h.1) (words_inexact features h.0 list.listed list.lists)
item_inexact features clauses bytes item h = subst InexactItem (sym h.1) tt

pub forms_inexact : (features : WasmFeatures) (fs : List Form) (bytes : List ℕ) (items : List Item) → SpellsForms features fs bytes items → AllByRecursion InexactItem items
forms_inexact features [] bytes items h = subst (AllByRecursion InexactItem) (sym h.1) tt
forms_inexact features (form ∷ fs) bytes items h =
    subst (AllByRecursion InexactItem) (sym h.4) (item_inexact features form h.2 h.0 h.6, forms_inexact features fs h.3 h.1 h.7)

pub operator_inexact : (features : WasmFeatures) (bytes : List ℕ) (op : Seen) → SpellsOperator features bytes op → InexactOperator op
operator_inexact features bytes op h = forms_inexact features (forms h.kind) h.later op.items h.items

-- ---- bodies

many_inexact : (n : ℕ) (ty : ValType) (tys : List ValType) → InexactValue ty → InexactValues tys → InexactValues (repeat n (ty ∷ []) ++ tys)
many_inexact zero ty tys h k = k
many_inexact (suc n) ty tys h k = (h, many_inexact n ty tys h k)

runs_inexact : (a : Around) (total : ℕ) (rs : List LocalRun) (bytes : List ℕ) → SpellsEntries next_total (local_run a) total bytes rs → InexactValues (declared rs)
runs_inexact a total [] bytes h = tt
runs_inexact a total (r ∷ rs) bytes h =
    let one = h.3 in many_inexact r.0 r.1 (declared rs) (value_inexact a.features (length (types_of a.filled)) one.1 r.1 one.4) (runs_inexact a (next_total total r) rs h.1 h.4)

one_inexact : (a : Around) (locals : ℕ) (p : Point) (bytes : List ℕ) (x : ℕ × Seen) → (operator_in a locals p).spells bytes x → InexactOperator x.1
one_inexact a locals p bytes x h = go (is_closed p.frames) h.0
  where
    go : (c : Bool) → either_type c ⊥ ((operator a.features).spells bytes x.1) → InexactOperator x.1
    go true h = absurd h
    go false h = operator_inexact a.features bytes x.1 (subst (λ (o : Option Seen). SpellsEither a.features bytes o) h.1 h.2)

ops_inexact : (a : Around) (locals place : ℕ) (ops : List (ℕ × Seen)) (p : Point) (bytes : List ℕ) → SpellsEntries next_point (operator_in a locals) p bytes ops
    → AllByRecursion (λ (o : Placed). InexactOperator o.op) (placed place ops)
ops_inexact a locals place [] p bytes h = tt
ops_inexact a locals place (x ∷ ops) p bytes h = (one_inexact a locals p h.0 x h.3, ops_inexact a locals x.0 ops (next_point p x) h.1 h.4)

pub parts_inexact : (a : Around) (params place : ℕ) (bytes : List ℕ) (parts : Parts) → (body a params place).spells bytes parts → InexactBody (body_of parts)
parts_inexact a params place bytes parts h =
    let runs = h.3 in
    let list = runs.0 in
    (runs_inexact a params parts.0.1 list.1 list.4, ops_inexact a (fold next_total params parts.0.1) parts.0.0 parts.1 (opened parts.0.0) h.1 h.4)

pub read_bodies_are_inexact : ReadBodiesAreInexact
read_bodies_are_inexact a params place bytes x h = subst InexactBody h.2 (parts_inexact a params place bytes h.0 h.1.0)

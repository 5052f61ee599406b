-- Operators that are instructions by themselves, and what of them an instruction can hold.
use Rattle.std.specs.Prelude.{ℕ, ◌<◌, ◌≡◌, ◌||◌, not, Bool, true, false, List, [], ◌∷◌, Some}
use Rattle.std.specs.List.{AllByRecursion}
use Rattle.wasm_ref_types.specs.declared.heap.AbstractHeapType.{AbstractHeapType}
use Rattle.wasm_ref_types.specs.declared.heap.AbstractHeapType.TheVariants as abstracts
use Rattle.wasm_ref_types.specs.declared.heap.HeapType.{HeapType}
use Rattle.wasm_ref_types.specs.declared.heap.HeapType.TheVariants.{Abstract, Concrete, Exact}
use Rattle.wasm_ref_types.specs.declared.index.UnpackedIndex.{UnpackedIndex}
use Rattle.wasm_ref_types.specs.declared.index.UnpackedIndex.TheVariants.{Module, RecGroup, Id}
use Rattle.wasm_ref_types.specs.declared.value.ValType.{ValType}
use Rattle.wasm_ref_types.specs.declared.value.ValType.TheVariants.{Ref}
use Rattle.wasm_operators.specs.Items.{Space, Types, Memories, Item, Names, Heap, Access, ManyValues}
use Rattle.wasm_operators.specs.declared.entry.Kind.{Kind}
use Rattle.wasm_operators.specs.declared.entry.Kind.TheVariants as kinds
use Rattle.wasm_operators.specs.declared.entry.Flow.{Flow}
use Rattle.wasm_operators.specs.declared.entry.Flow.TheVariants as flows
use Rattle.wasm_operators.specs.declared.entry.Entry.{Entry}
use Rattle.wasm_operators.specs.Table.{find_code}
use Rattle.wasm_operators.specs.Operators.{Seen}
use Rattle.walrus_pairing.specs.Looks.{Look}

-- ---- which operators are instructions by themselves

-- a label, or a block's type, is among the immediates
abbrev pub holds_labels : Kind → Bool
holds_labels kinds.Block = true
holds_labels kinds.TryTable = true
holds_labels kinds.Label = true
holds_labels kinds.BrTable = true
holds_labels kinds.Cast = true
holds_labels _ = false

-- nop, and what parts or ends blocks
abbrev pub is_no_step : Flow → Bool
is_no_step flows.Passes = true
is_no_step flows.Else = true
is_no_step flows.Catch = true
is_no_step flows.CatchAll = true
is_no_step flows.Delegate = true
is_no_step flows.End = true
is_no_step _ = false

abbrev pub is_plain : Entry → Bool
is_plain e = not (holds_labels e.kind || is_no_step e.flow)

-- the table lists it as plain
abbrev pub IsPlainOperator : Seen → Type 0
IsPlainOperator op = (e : Entry) × (find_code op.code.prefix op.code.number ≡ Some e) × (is_plain e ≡ true)

-- ---- what an instruction can hold

abbrev pub IsFound : Look → Space → ℕ → Type 0
IsFound look space n = (id : ℕ) × (look space n ≡ Some id)

-- cont and nocont
abbrev pub is_continuation : AbstractHeapType → Bool
is_continuation abstracts.Cont = true
is_continuation abstracts.NoCont = true
is_continuation _ = false

abbrev pub IsIndexHeld : Look → UnpackedIndex → Type 0
IsIndexHeld look (Module n) = IsFound look Types n
IsIndexHeld look (RecGroup n) = ⊥
IsIndexHeld look (Id id) = ⊥

-- a type that is no continuation's, or a name that is found
abbrev pub IsHeapHeld : Look → HeapType → Type 0
IsHeapHeld look (Abstract shared ty) = is_continuation ty ≡ false
IsHeapHeld look (Concrete index) = IsIndexHeld look index
IsHeapHeld look (Exact index) = IsIndexHeld look index

abbrev pub IsValueHeld : Look → ValType → Type 0
IsValueHeld look (Ref ty) = IsHeapHeld look ty.heap_type
IsValueHeld look _ = Unit {0}

-- names are found, alignments are at most 2^31, and a `select` has one type
abbrev pub IsHeld : Look → Item → Type 0
IsHeld look (Names space n) = IsFound look space n
IsHeld look (Heap ty) = IsHeapHeld look ty
IsHeld look (Access a) = IsFound look Memories a.memory × (a.align < 32)
IsHeld look (ManyValues tys) = (ty : ValType) × (tys ≡ ty ∷ []) × IsValueHeld look ty
IsHeld look _ = Unit {0}

abbrev pub AreHeld : Look → List Item → Type 0
AreHeld look items = AllByRecursion (IsHeld look) items

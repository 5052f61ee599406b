-- What of a file's module holds no exact heap type.
use Rattle.std.specs.Prelude.{ℕ, List, Option, Some, None}
use Rattle.std.specs.List.{AllByRecursion}
use Rattle.wasm_features.specs.declared.WasmFeatures.{WasmFeatures}
use Rattle.wasm_ref_types.specs.declared.heap.HeapType.{HeapType as WrittenHeap}
use Rattle.wasm_ref_types.specs.declared.heap.HeapType.TheVariants.{Abstract as WAbstract, Concrete as WConcrete, Exact as WExact}
use Rattle.wasm_ref_types.specs.declared.value.ValType.{ValType as WrittenValue}
use Rattle.wasm_ref_types.specs.declared.value.ValType.TheVariants.{Ref as WRef}
use Rattle.wasm_operators.specs.declared.block_type.BlockType.{BlockType}
use Rattle.wasm_operators.specs.declared.block_type.BlockType.TheVariants as blocks
use Rattle.wasm_operators.specs.Items.{Item, Heap, Block, ManyValues}
use Rattle.wasm_operators.specs.Operators.{Seen}
use Rattle.walrus_forms.specs.declared.value.HeapType.{HeapType}
use Rattle.walrus_forms.specs.declared.value.HeapType.TheVariants.{Abstract, Shared, Concrete, Exact}
use Rattle.walrus_forms.specs.declared.value.RefType.{RefType}
use Rattle.walrus_forms.specs.declared.value.ValType.{ValType}
use Rattle.walrus_forms.specs.declared.value.ValType.TheVariants.{Ref}
use Rattle.walrus_forms.specs.declared.value.FieldType.{FieldType}
use Rattle.walrus_forms.specs.Values.{unpacked}
use Rattle.walrus_forms.specs.Forms.{Form, FunctionForm, StructForm, ArrayForm}
use Rattle.walrus_forms.specs.Kinds.{Kind}
use Rattle.walrus_forms.specs.Records.{TypeGroup}
use Rattle.wasm_grammar.specs.Modules.{Body, Element, Elements, Expr, Expressions, Functions, Global, Mode, Active, Module, Origin, Own, Placed, Segment, Table}
use Rattle.wasm_grammar.specs.States.{State}
use Rattle.wasm_sections.specs.Laws.{ReadsSections}
use Rattle.wasm_body_grammar.specs.Rules.{Around}
use Rattle.wasm_body_grammar.specs.Laws.{ReadsBody}
use Rattle.wasm_module_rules.specs.Linked.{Each}

-- ---- types

-- the heap type isn't exact
abbrev pub InexactHeap : HeapType → Type 0
InexactHeap (Abstract kind) = Unit {0}
InexactHeap (Shared kind) = Unit {0}
InexactHeap (Concrete name) = Unit {0}
InexactHeap (Exact name) = ⊥

-- nor is that of a reference type
abbrev pub InexactRef : RefType → Type 0
InexactRef ty = InexactHeap ty.heap_type

-- a value type that is a reference type is an inexact one
abbrev pub InexactValue : ValType → Type 0
InexactValue (Ref ty) = InexactRef ty
InexactValue _ = Unit {0}

-- so is each of these
abbrev pub InexactValues : List ValType → Type 0
InexactValues tys = AllByRecursion InexactValue tys

-- what a field holds is inexact, unpacked
abbrev pub InexactField : FieldType → Type 0
InexactField field = InexactValue (unpacked field.element_type)

-- each type of a form is
abbrev pub InexactForm : Form → Type 0
InexactForm (FunctionForm params results) = InexactValues params × InexactValues results
InexactForm (StructForm fields) = AllByRecursion InexactField fields
InexactForm (ArrayForm field) = InexactField field

-- the forms of these kinds are
abbrev pub InexactKinds : List Kind → Type 0
InexactKinds kinds = AllByRecursion (λ (k : Kind). InexactForm k.form) kinds

-- and those of these groups
abbrev pub InexactGroups : List TypeGroup → Type 0
InexactGroups groups = AllByRecursion (λ (g : TypeGroup). InexactKinds g.kinds) groups

-- ---- operators, as they are written

-- a heap type of an immediate isn't exact
abbrev pub InexactWritten : WrittenHeap → Type 0
InexactWritten (WAbstract shared kind) = Unit {0}
InexactWritten (WConcrete index) = Unit {0}
InexactWritten (WExact index) = ⊥

-- nor is that of a value type
abbrev pub InexactWord : WrittenValue → Type 0
InexactWord (WRef ty) = InexactWritten ty.heap_type
InexactWord _ = Unit {0}

-- nor that of a block type
abbrev pub InexactBlock : BlockType → Type 0
InexactBlock (blocks.Value ty) = InexactWord ty
InexactBlock _ = Unit {0}

-- nor those of an immediate
abbrev pub InexactItem : Item → Type 0
InexactItem (Heap ty) = InexactWritten ty
InexactItem (Block ty) = InexactBlock ty
InexactItem (ManyValues tys) = AllByRecursion InexactWord tys
InexactItem _ = Unit {0}

-- no immediate of an operator has an exact one
abbrev pub InexactOperator : Seen → Type 0
InexactOperator op = AllByRecursion InexactItem op.items

-- no operator of a constant expression has one
abbrev pub InexactExpr : Expr → Type 0
InexactExpr ops = AllByRecursion InexactOperator ops

-- nor has an initialiser, if there is one
abbrev pub InexactInit : Option Expr → Type 0
InexactInit None = Unit {0}
InexactInit (Some ops) = InexactExpr ops

-- nor a first value
abbrev pub InexactOrigin : Origin Expr → Type 0
InexactOrigin (Own ops) = InexactExpr ops
InexactOrigin _ = Unit {0}

-- nor an offset
abbrev pub InexactMode : Mode → Type 0
InexactMode (Active into offset) = InexactExpr offset
InexactMode _ = Unit {0}

-- nor the type of a segment's elements, or one of these
abbrev pub InexactElements : Elements → Type 0
InexactElements (Functions ns) = Unit {0}
InexactElements (Expressions ty es) = InexactRef ty × AllByRecursion InexactExpr es

-- ---- modules, bodies aside

-- no heap type in it is exact
pub record IsInexact (m : Module) : Type 0 where
  pub groups : InexactGroups m.groups
  pub tables : Each (λ (t : Table). InexactRef t.element × InexactInit t.init) m.tables
  pub globals : Each (λ (g : Global). InexactValue g.ty × InexactOrigin g.origin) m.globals
  pub elements : Each (λ (e : Element). InexactMode e.mode × InexactElements e.items) m.elements
  pub segments : Each (λ (x : Segment). InexactMode x.mode) m.segments

-- so it is in what was read of a file's sections
abbrev pub ReadSectionsAreInexact : Type 0
ReadSectionsAreInexact = (features : WasmFeatures) (bytes : List ℕ) (s : State) → ReadsSections features bytes s → IsInexact s.filled

-- ---- bodies

-- no heap type in the locals of a body, or in its operators, is exact
abbrev pub InexactBody : Body → Type 0
InexactBody x = InexactValues x.locals × AllByRecursion (λ (o : Placed). InexactOperator o.op) x.operators

-- so it is in a body that reads
abbrev pub ReadBodiesAreInexact : Type 0
ReadBodiesAreInexact = (a : Around) (params place : ℕ) (bytes : List ℕ) (x : Body) → ReadsBody a params place bytes x → InexactBody x

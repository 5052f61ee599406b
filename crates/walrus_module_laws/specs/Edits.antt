-- What adds keep of a linked module, and what replacing a function does.
use Rattle.std.specs.Prelude.{◌≡◌, ℕ, Bool, true, false, List, [], ◌∷◌, ◌++◌, Option, Some, None, Contains, Result, slice_set}
use Rattle.std.specs.Fn.{Once}
use Rattle.std.specs.Borrow.{Bor, MutBor}
use Rattle.std.specs.declared.alloc.AllocError.{AllocError}
use Rattle.walrus_forms.specs.declared.value.ValType.{ValType}
use Rattle.walrus_forms.specs.declared.value.RefType.{RefType}
use Rattle.walrus_forms.specs.Kinds.{Kind, kind_names}
use Rattle.walrus_items.specs.declared.local.Local.{Local}
use Rattle.walrus_types.specs.Groups.{AddsGroup}
use Rattle.walrus_types.specs.Table.{Merges}
use Rattle.walrus_instr.specs.declared.const_expr.ConstExpr.{ConstExpr}
use Rattle.walrus_walks.specs.Events.{Event, NamesType, val_names, ref_names}
use Rattle.walrus_walks.specs.ConstEvents.{expr_names}
use Rattle.walrus_builder.specs.Built.{Building}
use Rattle.walrus_builder.specs.Functions.{seqs_of}
use Rattle.walrus_tree.specs.Trees.{IsTree}
use Rattle.walrus_linked.specs.walrus_local_function.declared.local_function.LocalFunction.{LocalFunction}
use Rattle.walrus_linked.specs.walrus_module_items.declared.function.FunctionKind.TheVariants as functions
use Rattle.walrus_linked.specs.walrus_module_items.declared.global.GlobalKind.TheVariants as globals
use Rattle.walrus_linked.specs.walrus_module_items.declared.tag.TagKind.TheVariants as tags
use Rattle.walrus_linked.specs.walrus_module_items.declared.data.Data.{Data}
use Rattle.walrus_linked.specs.walrus_module_items.declared.element.Element.{Element}
use Rattle.walrus_linked.specs.walrus_module_items.declared.export.ExportItem.{ExportItem}
use Rattle.walrus_linked.specs.walrus_collections.Added.{Adds, IsExport, IsLocal, IsTable, IsMemory}
use Rattle.wasm_formats.specs.declared.fault.Space.TheVariants as spaces
use Rattle.walrus_linked.specs.walrus_module.Parts.{Module}
use Rattle.walrus_linked.specs.walrus_module.Replaced.{IsExportReplaced, IsImportReplaced}
use Rattle.walrus_roots.specs.declared.item.Item.{Item}
use Rattle.walrus_roots.specs.Items.{item}
use Rattle.walrus_marks.specs.Named.{items_of}
use Rattle.walrus_linked.specs.walrus_module.Items.{Lives, given_out}
use Rattle.walrus_linked.specs.Names.{init_names, body_names, data_kind_names, element_names}
use Rattle.walrus_linked.specs.Linked.{IsLinked, IsWhole}

-- what these events name lives
abbrev pub AreLive : Module → List Event → Type 0
AreLive m events = (y : Item) → Contains (items_of events) y → Lives m y

-- what types of these kinds name lives; an entry type is no item
abbrev pub KindsNameLive : Module → List Kind → Type 0
KindsNameLive m kinds = (kind : Kind) → Contains kinds kind → kind.entry ≡ false → (name : ℕ) → Contains (kind_names kind) name → Lives m (item spaces.Type name)

-- in an explicit group none of these kinds is an entry type's
abbrev pub MembersAreDeclared : Bool → List Kind → Type 0
MembersAreDeclared explicit kinds = explicit ≡ true → (kind : Kind) → Contains kinds kind → kind.entry ≡ false

-- each says of a call what it ensures where it answers an id; what the item names lives once it is added
pub record AddsKeepLinked : Type 0 where
  pub functions : (m n : Module) (f : ℕ) (local : LocalFunction) → Adds (IsLocal f local) m.funcs n.funcs → n ≡ record m { funcs = n.funcs }
      → IsWhole m.types (functions.Local local) → AreLive n (NamesType local.builder.ty ∷ body_names m.locals (functions.Local local)) → IsLinked m → IsLinked n
  pub tables : (m n : Module) (t : ℕ) (table64 : Bool) (initial : ℕ) (maximum : Option ℕ) (element : RefType) (init : Option ConstExpr)
      → Adds (IsTable t table64 initial maximum element init None) m.tables n.tables → n ≡ record m { tables = n.tables }
      → AreLive n (ref_names element ++ init_names init) → IsLinked m → IsLinked n
  pub memories : (m n : Module) (x : ℕ) (shared memory64 : Bool) (initial : ℕ) (maximum page_size_log2 : Option ℕ)
      → Adds (IsMemory x shared memory64 initial maximum page_size_log2 None) m.memories n.memories → n ≡ record m { memories = n.memories } → IsLinked m → IsLinked n
  pub globals : (m n : Module) (g : ℕ) (ty : ValType) (mutable shared : Bool) (init : ConstExpr)
      → n.globals.slots ≡ m.globals.slots ++ Some (record { id = g; ty = ty; mutable = mutable; shared = shared; kind = globals.Local init; name = None }) ∷ []
      → n ≡ record m { globals = n.globals } → AreLive n (val_names ty ++ expr_names init) → IsLinked m → IsLinked n
  pub tags : (m n : Module) (t ty : ℕ) → n.tags.slots ≡ m.tags.slots ++ Some (record { id = t; ty = ty; kind = tags.Local; name = None }) ∷ []
      → n ≡ record m { tags = n.tags } → AreLive n (NamesType ty ∷ []) → IsLinked m → IsLinked n
  pub data_segments : (m n : Module) (d : Data) → n.data_segments.slots ≡ m.data_segments.slots ++ Some d ∷ [] → n ≡ record m { data_segments = n.data_segments }
      → AreLive n (data_kind_names d.kind) → IsLinked m → IsLinked n
  pub elements : (m n : Module) (e : Element) → n.elements.slots ≡ m.elements.slots ++ Some e ∷ [] → n ≡ record m { elements = n.elements }
      → AreLive n (element_names e) → IsLinked m → IsLinked n
  pub exports : (m n : Module) (e : ℕ) (name : List ℕ) (i : ExportItem) → Adds (IsExport e name i) m.exports n.exports → n ≡ record m { exports = n.exports }
      → Lives m (given_out i) → IsLinked m → IsLinked n
  pub locals : (m n : Module) (local : Local) → n.locals ≡ m.locals ++ local ∷ [] → n ≡ record m { locals = n.locals } → IsLinked m → IsLinked n
  pub types : (m n : Module) (kind : Kind) (id : ℕ) → Merges kind id m.types n.types → n ≡ record m { types = n.types }
      → KindsNameLive n (kind ∷ []) → IsLinked m → IsLinked n
  pub groups : (m n : Module) (explicit : Bool) (kinds : List Kind) → AddsGroup explicit kinds m.types n.types → n ≡ record m { types = n.types }
      → KindsNameLive n kinds → MembersAreDeclared explicit kinds → IsLinked m → IsLinked n

-- nothing names an export
abbrev pub DeletedExportsKeepLinked : Type 0
DeletedExportsKeepLinked = (m n : Module) (e : ℕ) → n.exports.slots ≡ slice_set m.exports.slots e None → n ≡ record m { exports = n.exports } → IsLinked m → IsLinked n

-- the body's sequences form a tree, and what it names lives
pub record CanStand (n : Module) (local : LocalFunction) : Type 0 where
  pub tree : IsTree (seqs_of local.builder) 0
  pub named : AreLive n (body_names n.locals (functions.Local local))

-- where the body that the closure filled can stand in the module that is left
pub record ReplacesKeepLinked {F : Type 0} (g : Once F (MutBor Building × (Bor (List ℕ) × Unit {0})) (Result (Unit {0}) AllocError × (MutBor Building × Unit {0}))) : Type 0 where
  pub exported : (build : F) (function id : ℕ) (m n : Module) (r : IsExportReplaced g build function id m n) → CanStand n r.made → IsLinked m → IsLinked n
  pub imported : (build : F) (function : ℕ) (m n : Module) (r : IsImportReplaced g build function m n) → CanStand n r.made → IsLinked m → IsLinked n

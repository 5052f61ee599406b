-- What the items of a module name, beside what names them back: the segments of tables and memories, and the members of a
-- type's group, live wherever they are named so.
use Rattle.std.specs.Prelude.{ℕ, List, [], ◌∷◌, ◌++◌, map, Option, Some, None, slice_get}
use Rattle.walrus_arena.specs.Arena.{item_at}
use Rattle.walrus_forms.specs.Kinds.{kind_names}
use Rattle.walrus_items.specs.declared.local.Local.{Local}
use Rattle.walrus_module.specs.walrus_types.Items.{Item as TypeItem}
use Rattle.walrus_module.specs.walrus_types.Table.{type_at}
use Rattle.walrus_marks.specs.walrus_instr.declared.const_expr.ConstExpr.{ConstExpr}
use Rattle.walrus_marks.specs.walrus_walks.Events.{Event, NamesLocal, NamesType, NamesFunction, NamesTable, NamesMemory, val_names, ref_names, events_of}
use Rattle.walrus_marks.specs.walrus_walks.ConstEvents.{expr_names}
use Rattle.walrus_marks.specs.walrus_walks.Walk.{body_walk}
use Rattle.walrus_item_meaning.specs.Meaning.{table_init}
use Rattle.walrus_module.specs.walrus_builder.Functions.{seqs_of}
use Rattle.walrus_module.specs.walrus_local_function.declared.local_function.LocalFunction.{LocalFunction}
use Rattle.walrus_module.specs.walrus_module_items.declared.function.Function.{Function}
use Rattle.walrus_module.specs.walrus_module_items.declared.function.FunctionKind.{FunctionKind}
use Rattle.walrus_module.specs.walrus_module_items.declared.function.FunctionKind.TheVariants as functions
use Rattle.walrus_module.specs.walrus_module_items.declared.table.Table.{Table}
use Rattle.walrus_module.specs.walrus_module_items.declared.global.Global.{Global}
use Rattle.walrus_module.specs.walrus_module_items.declared.global.GlobalKind.{GlobalKind}
use Rattle.walrus_module.specs.walrus_module_items.declared.global.GlobalKind.TheVariants as globals
use Rattle.walrus_module.specs.walrus_module_items.declared.tag.Tag.{Tag}
use Rattle.walrus_module.specs.walrus_module_items.declared.data.DataKind.{DataKind}
use Rattle.walrus_module.specs.walrus_module_items.declared.data.DataKind.TheVariants as datas
use Rattle.walrus_module.specs.walrus_module_items.declared.element.Element.{Element}
use Rattle.walrus_module.specs.walrus_module_items.declared.element.ElementKind.{ElementKind}
use Rattle.walrus_module.specs.walrus_module_items.declared.element.ElementKind.TheVariants as elements
use Rattle.walrus_module.specs.walrus_module_items.declared.element.ElementItems.{ElementItems}
use Rattle.walrus_module.specs.walrus_module_items.declared.element.ElementItems.TheVariants as holds
use Rattle.walrus_module.specs.walrus_module_items.Functions.{type_of}
use Rattle.wasm_formats.specs.declared.fault.Space.{Space}
use Rattle.wasm_formats.specs.declared.fault.Space.TheVariants as spaces
use Rattle.walrus_module.specs.Parts.{Module}
use Rattle.walrus_roots.specs.declared.item.Item.{Item}
use Rattle.walrus_marks.specs.Named.{items_of}

-- the type of a known local
abbrev pub local_names : Option Local → List Event
local_names (Some local) = val_names local.ty
local_names None = []

-- the types of the locals that a walk names
abbrev pub used_types : List Local → Event → List Event
used_types locals (NamesLocal id) = local_names (slice_get locals id)
used_types locals _ = []

-- what a body names, as its tree stands, and the types of the locals that it names; its own sequence's block type is not looked at
abbrev pub body_events : LocalFunction → List Event
body_events local = body_walk (seqs_of local.builder) 0

abbrev pub body_names : List Local → FunctionKind → List Event
body_names locals (functions.Local local) = body_events local ++ events_of (used_types locals) (body_events local)
body_names locals _ = []

abbrev pub function_names : List Local → Function → List Event
function_names locals f = NamesType (type_of f.kind) ∷ body_names locals f.kind

-- what an initialiser names, where there is one
abbrev pub init_names : Option ConstExpr → List Event
init_names (Some init) = expr_names init
init_names None = []

abbrev pub table_names : Table → List Event
table_names t = ref_names t.element_ty ++ init_names (table_init t)

abbrev pub value_names : GlobalKind → List Event
value_names (globals.Import _) = []
value_names (globals.Local init) = expr_names init

abbrev pub global_names : Global → List Event
global_names g = val_names g.ty ++ value_names g.kind

abbrev pub tag_names : Tag → List Event
tag_names t = NamesType t.ty ∷ []

abbrev pub data_kind_names : DataKind → List Event
data_kind_names (datas.Active memory offset) = NamesMemory memory ∷ expr_names offset
data_kind_names datas.Passive = []

abbrev pub element_kind_names : ElementKind → List Event
element_kind_names (elements.Active table offset) = NamesTable table ∷ expr_names offset
element_kind_names elements.Passive = []
element_kind_names elements.Declared = []

abbrev pub held_names : ElementItems → List Event
held_names (holds.Functions functions) = map (λ f. NamesFunction f) functions.items
held_names (holds.Expressions ty exprs) = ref_names ty ++ events_of expr_names exprs.items

abbrev pub element_names : Element → List Event
element_names e = element_kind_names e.kind ++ held_names e.items

-- the types that a type names: those of its form, and its supertype
abbrev pub type_names : TypeItem → List Event
type_names ty = map (λ name. NamesType name) (kind_names ty.kind)

-- what is named where an item is
abbrev pub named_by : {A : Type 0} → (A → List Event) → Option A → List Event
named_by names (Some x) = names x
named_by names None = []

-- in each space, what the live item of an id names; a memory and a local name nothing more
abbrev pub names_in : Module → Space → ℕ → List Event
names_in m spaces.Type id = named_by type_names (type_at m.types id)
names_in m spaces.Function id = named_by (function_names m.locals) (item_at m.funcs id)
names_in m spaces.Table id = named_by table_names (item_at m.tables id)
names_in m spaces.Memory id = []
names_in m spaces.Tag id = named_by tag_names (item_at m.tags id)
names_in m spaces.Global id = named_by global_names (item_at m.globals id)
names_in m spaces.Element id = named_by element_names (item_at m.elements id)
names_in m spaces.Data id = named_by (λ d. data_kind_names d.kind) (item_at m.data_segments id)
names_in m spaces.Local id = []
names_in m spaces.Label id = []

-- the items that an item names
abbrev pub names : Module → Item → List Item
names m x = items_of (names_in m x.space x.id)

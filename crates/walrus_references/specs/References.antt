-- References: what each item of a module names, a line a kind of item in `Refers`.
use Rattle.std.specs.Prelude.{◌≡◌, ◌⊎◌, ℕ, nat_eq, true, List, [], ◌∷◌, ◌++◌, map, Option, Some, None, MatchOption, Contains, slice_get, if◌then◌else◌}
use Rattle.std.specs.HashSet.{keys}
use Rattle.std.specs.List.{flat_map}
use Rattle.wasm_formats.specs.declared.fault.Space.{Space}
use Rattle.wasm_formats.specs.declared.fault.Space.TheVariants as spaces
use Rattle.walrus_arena.specs.Arena.{item_at, IsLive}
use Rattle.walrus_forms.specs.Kinds.{kind_names}
use Rattle.walrus_items.specs.Items.{Item as TypeItem, Group}
use Rattle.walrus_items.specs.declared.local.Local.{Local}
use Rattle.walrus_instr.specs.walrus_types.Table.{Table as TypeTable, HasMember}
use Rattle.walrus_instr.specs.declared.instr.Instr.{Instr}
use Rattle.walrus_instr.specs.declared.const_expr.ConstExpr.{ConstExpr}
use Rattle.walrus_instr.specs.declared.seq.InstrLocId.{InstrLocId}
use Rattle.walrus_instr.specs.declared.seq.InstrSeq.{InstrSeq}
use Rattle.walrus_marks.specs.walrus_walks.Tree.{children}
use Rattle.walrus_marks.specs.walrus_walks.Events.{names, block_names, val_names, ref_names}
use Rattle.walrus_marks.specs.walrus_walks.ConstEvents.{expr_names}
use Rattle.walrus_module.specs.walrus_builder.Functions.{seqs_of}
use Rattle.walrus_item_meaning.specs.Meaning.{table_init}
use Rattle.walrus_module.specs.walrus_module_items.declared.function.Function.{Function}
use Rattle.walrus_module.specs.walrus_module_items.declared.function.FunctionKind.{FunctionKind}
use Rattle.walrus_module.specs.walrus_module_items.declared.function.FunctionKind.TheVariants as functions
use Rattle.walrus_module.specs.walrus_module_items.declared.table.Table.{Table}
use Rattle.walrus_module.specs.walrus_module_items.declared.memory.Memory.{Memory}
use Rattle.walrus_module.specs.walrus_module_items.declared.global.Global.{Global}
use Rattle.walrus_module.specs.walrus_module_items.declared.global.GlobalKind.{GlobalKind}
use Rattle.walrus_module.specs.walrus_module_items.declared.global.GlobalKind.TheVariants as globals
use Rattle.walrus_module.specs.walrus_module_items.declared.tag.Tag.{Tag}
use Rattle.walrus_module.specs.walrus_module_items.declared.data.DataKind.{DataKind}
use Rattle.walrus_module.specs.walrus_module_items.declared.data.DataKind.TheVariants as datas
use Rattle.walrus_module.specs.walrus_module_items.declared.element.Element.{Element}
use Rattle.walrus_module.specs.walrus_module_items.declared.element.ElementKind.{ElementKind}
use Rattle.walrus_module.specs.walrus_module_items.declared.element.ElementKind.TheVariants as elements
use Rattle.walrus_module.specs.walrus_module_items.declared.element.ElementItems.{ElementItems}
use Rattle.walrus_module.specs.walrus_module_items.declared.element.ElementItems.TheVariants as holds
use Rattle.walrus_module.specs.walrus_module_items.Functions.{type_of}
use Rattle.walrus_module.specs.Parts.{Module}
use Rattle.walrus_module.specs.Items.{written_type}
use Rattle.walrus_roots.specs.declared.item.Item.{Item}
use Rattle.walrus_roots.specs.Items.{item}
use Rattle.walrus_marks.specs.Chains.{Chain}
use Rattle.walrus_marks.specs.Named.{items_of}

-- ---- bodies
-- the sequences that a known sequence holds
abbrev pub held : Option InstrSeq → List Item
held (Some s) = flat_map (λ (i : Instr × InstrLocId). map (item spaces.Label) (children i.0)) s.instrs.items
held None = []

abbrev pub held_in : List InstrSeq → Space → ℕ → List Item
held_in b spaces.Label k = held (slice_get b k)
held_in b _ k = []

abbrev pub Holds : List InstrSeq → Item → Item → Type 0
Holds b x y = Contains (held_in b x.space x.id) y

-- the sequence that a body begins with
abbrev pub IsEntry : Item → Type 0
IsEntry x = Contains (item spaces.Label 0 ∷ []) x

-- the sequence is reached from the body's own, as a tree or not
abbrev pub Reaches : List InstrSeq → ℕ → Type 0
Reaches b k = Chain IsEntry (Holds b) (item spaces.Label k)

-- what the instructions of a sequence name, also those after a `return`
abbrev pub instr_items : List (Instr × InstrLocId) → List Item
instr_items is = flat_map (λ (i : Instr × InstrLocId). items_of (names i.0)) is

-- what a sequence names: what its instructions do, and its block type. The type of the body's own is no reference.
abbrev pub seq_items : ℕ → InstrSeq → List Item
seq_items k s = (if nat_eq k 0 then [] else items_of (block_names s.ty)) ++ instr_items s.instrs.items

abbrev pub known_items : ℕ → Option InstrSeq → List Item
known_items k (Some s) = seq_items k s
known_items k None = []

-- a body names what its reached sequences name; a local that it names is a used one
abbrev pub BodyNames : List InstrSeq → Item → Type 0
BodyNames b y = (k : ℕ) × Reaches b k × Contains (known_items k (slice_get b k)) y

abbrev pub KindNames : FunctionKind → Item → Type 0
KindNames (functions.Local local) y = BodyNames (seqs_of local.builder) y
KindNames _ y = ⊥

-- ---- what stands in an item
abbrev pub init_items : Option ConstExpr → List Item
init_items (Some init) = items_of (expr_names init)
init_items None = []

abbrev pub value_items : GlobalKind → List Item
value_items (globals.Import _) = []
value_items (globals.Local init) = items_of (expr_names init)

-- an active segment names its memory, or its table, and what its offset names
abbrev pub data_items : DataKind → List Item
data_items (datas.Active memory offset) = item spaces.Memory memory ∷ items_of (expr_names offset)
data_items datas.Passive = []

abbrev pub place_items : ElementKind → List Item
place_items (elements.Active table offset) = item spaces.Table table ∷ items_of (expr_names offset)
place_items elements.Passive = []
place_items elements.Declared = []

abbrev pub held_items : ElementItems → List Item
held_items (holds.Functions functions) = map (item spaces.Function) functions.items
held_items (holds.Expressions ty exprs) = items_of (ref_names ty) ++ flat_map (λ e. items_of (expr_names e)) exprs.items

-- ---- segments
-- the segment is active in this table, or in this memory
abbrev pub IsActiveIn : ℕ → ElementKind → Type 0
IsActiveIn t (elements.Active table _) = table ≡ t
IsActiveIn t _ = ⊥

abbrev pub IsCopiedInto : ℕ → DataKind → Type 0
IsCopiedInto x (datas.Active memory _) = memory ≡ x
IsCopiedInto x _ = ⊥

-- the segments of a table: the live ones that are active in it, and the live ones that it lists itself
abbrev pub HasElement : Module → ℕ → Table → Item → Type 0
HasElement m t table y = (e : ℕ) × (y ≡ item spaces.Element e)
    × (MatchOption (item_at m.elements e) ⊥ (λ element. IsActiveIn t element.kind) ⊎ (Contains (keys table.elem_segments) e × IsLive m.elements e))

abbrev pub HasData : Module → ℕ → Memory → Item → Type 0
HasData m x memory y = (d : ℕ) × (y ≡ item spaces.Data d)
    × (MatchOption (item_at m.data_segments d) ⊥ (λ segment. IsCopiedInto x segment.kind) ⊎ (Contains (keys memory.data_segments) d × IsLive m.data_segments d))

-- ---- types
-- the other is a member of the type's explicit group
abbrev pub IsInGroup : TypeTable → ℕ → Item → Type 0
IsInGroup t id y = (group : Group) × HasMember t id group × (group.explicit ≡ true) × Contains (map (item spaces.Type) group.types) y

-- ---- References
-- what the item that is there names, if one is
abbrev pub named_by : {A : Type 0} → (A → List Item) → Option A → List Item
named_by items (Some x) = items x
named_by items None = []

-- the item that is there, if one is, names the other
abbrev pub Named : {A : Type 0} → Option A → (A → Type 0) → Type 0
Named o P = MatchOption o ⊥ P

abbrev pub type_items : TypeItem → List Item
type_items ty = map (item spaces.Type) (kind_names ty.kind)

abbrev pub function_items : Function → List Item
function_items f = item spaces.Type (type_of f.kind) ∷ []

abbrev pub table_items : Table → List Item
table_items t = items_of (ref_names t.element_ty) ++ init_items (table_init t)

abbrev pub global_items : Global → List Item
global_items g = items_of (val_names g.ty) ++ value_items g.kind

abbrev pub tag_items : Tag → List Item
tag_items t = item spaces.Type t.ty ∷ []

abbrev pub element_items : Element → List Item
element_items e = place_items e.kind ++ held_items e.items

abbrev pub local_items : Local → List Item
local_items local = items_of (val_names local.ty)

-- a type: its explicit group, the types of its form and its supertype; a function: its type, and what its body names; a table:
-- its element type, its initialiser, its segments; a memory: its segments; a global: its type, its initialiser; a tag: its
-- type; an element segment: its table and offset, its element type and items; a data segment: its memory and offset; a used
-- local: its type
abbrev pub RefersIn : Module → Space → ℕ → Item → Type 0
RefersIn m spaces.Type id y = Contains (named_by type_items (written_type m.types id)) y ⊎ IsInGroup m.types id y
RefersIn m spaces.Function id y = Contains (named_by function_items (item_at m.funcs id)) y ⊎ Named (item_at m.funcs id) (λ f. KindNames f.kind y)
RefersIn m spaces.Table id y = Contains (named_by table_items (item_at m.tables id)) y ⊎ Named (item_at m.tables id) (λ t. HasElement m id t y)
RefersIn m spaces.Memory id y = Named (item_at m.memories id) (λ x. HasData m id x y)
RefersIn m spaces.Global id y = Contains (named_by global_items (item_at m.globals id)) y
RefersIn m spaces.Tag id y = Contains (named_by tag_items (item_at m.tags id)) y
RefersIn m spaces.Element id y = Contains (named_by element_items (item_at m.elements id)) y
RefersIn m spaces.Data id y = Contains (named_by (λ d. data_items d.kind) (item_at m.data_segments id)) y
RefersIn m spaces.Local id y = Contains (named_by local_items (slice_get m.locals id)) y
RefersIn m spaces.Label id y = ⊥

-- the one item names the other
abbrev pub Refers : Module → Item → Item → Type 0
Refers m x y = RefersIn m x.space x.id y

-- References: what each item of an abstract module names, a line a kind of item in `RefersIn` (Core Specification, structure: modules).
use Rattle.std.specs.Prelude.{ℕ, ◌≡◌, ◌⊎◌, true, List, [], ◌∷◌, ◌++◌, map, length, take, drop, Option, Some, None, IsSome, MatchOption, Contains, slice_get, slice_index_or}
use Rattle.std.specs.List.{flat_map}
use Rattle.std.specs.Option.{option_to_list}
use Rattle.wasm_grammar.specs.walrus_forms.declared.value.RefType.{RefType}
use Rattle.wasm_grammar.specs.walrus_forms.declared.value.ValType.{ValType}
use Rattle.wasm_grammar.specs.walrus_forms.Kinds.{Kind, kind_names}
use Rattle.wasm_grammar.specs.walrus_forms.Records.{TypeGroup}
use Rattle.wasm_grammar.specs.walrus_forms.Values.{ref_name, value_name}
use Rattle.wasm_formats.specs.declared.fault.Space.{Space}
use Rattle.wasm_formats.specs.declared.fault.Space.TheVariants as spaces
use Rattle.wasm_operators.specs.declared.block_type.BlockType.{BlockType}
use Rattle.wasm_operators.specs.Items as immediates
use Rattle.wasm_grammar.specs.wasm_operators.Operators.{Seen}
use Rattle.wasm_operators.specs.Names.{Name, operator_names, block_names}
use Rattle.wasm_grammar.specs.Modules.{Item, Expr, Origin, Imported, Own, Placed, Body, Function, Table, Global, Tag, Mode, Passive, Declared, Active, Elements, Functions, Expressions, Element, Segment, Module}
use Rattle.wasm_body_grammar.specs.Rules.{space_of}

-- a module, its bodies as they are written (of a file: their normal forms), with what its records don't say
pub record Numbered : Type 0 where
  pub filled : Module
  -- the number of each type, in the order of the groups
  pub types : List ℕ
  -- of a function and a local of it: the local's type
  pub local_type : ℕ → ℕ → Option ValType
  -- of a function: the block types of its parts that no operator has, those of `else`, `catch` and `catch_all`
  pub parts : ℕ → List BlockType
  -- the segments that a table lists itself, and those that a memory does
  pub own_elements : ℕ → List ℕ
  pub own_data : ℕ → List ℕ

abbrev pub item : Space → ℕ → Item
item space n = record { space = space; number = n }

-- ---- types

abbrev pub ref_items : RefType → List Item
ref_items ty = map (item spaces.«Type») (option_to_list (ref_name ty))

abbrev pub value_items : ValType → List Item
value_items ty = map (item spaces.«Type») (option_to_list (value_name ty))

-- the groups, each with the numbers of its types
abbrev pub numbered : List TypeGroup → List ℕ → List (TypeGroup × List ℕ)
numbered [] ns = []
numbered (group ∷ groups) ns = (group, take (length group.kinds) ns) ∷ numbered groups (drop (length group.kinds) ns)

-- the type of a number: its group, and its kind
pub record IsType (v : Numbered) (n : ℕ) (group : TypeGroup × List ℕ) (kind : Kind) : Type 0 where
  pub listed : Contains (numbered v.filled.groups v.types) group
  pub place : ℕ
  pub number : slice_get group.1 place ≡ Some n
  pub known : slice_get group.0.kinds place ≡ Some kind

-- a type names the types of its form and its supertype, and where its group is written as one all types of this
abbrev pub TypeRefers : Numbered → ℕ → Item → Type 0
TypeRefers v n y = (group : TypeGroup × List ℕ) × (kind : Kind) × IsType v n group kind
    × (Contains (map (item spaces.«Type») (kind_names kind)) y ⊎ ((group.0.marked ≡ true) × Contains (map (item spaces.«Type») group.1) y))

-- ---- operators

abbrev pub local_items : Option ValType → List Item
local_items (Some ty) = value_items ty
local_items None = []

-- the items behind a name in a body, where locals have these types: a local is used, so that its type is named; a label is no item
abbrev pub name_items : (ℕ → Option ValType) → immediates.Space → ℕ → List Item
name_items locals immediates.Locals n = local_items (locals n)
name_items locals immediates.Labels n = []
name_items locals space n = item (space_of space) n ∷ []

abbrev pub names_items : (ℕ → Option ValType) → List Name → List Item
names_items locals names = flat_map (λ (n : Name). name_items locals n.0 n.1) names

abbrev pub no_locals : ℕ → Option ValType
no_locals n = None

abbrev pub expr_items : Expr → List Item
expr_items ops = flat_map (λ (op : Seen). names_items no_locals (operator_names op)) ops

-- what the operators of a body name, and the block types of its parts
abbrev pub body_items : (ℕ → Option ValType) → List Placed → List BlockType → List Item
body_items locals ops parts =
    flat_map (λ (o : Placed). names_items locals (operator_names o.op)) ops ++ flat_map (λ (ty : BlockType). names_items locals (block_names ty)) parts

-- ---- records

-- the module's own, with what it names
abbrev pub origin_items : {A : Type 0} → (A → List Item) → Origin A → List Item
origin_items items (Imported i) = []
origin_items items (Own x) = items x

abbrev pub function_items : (ℕ → Option ValType) → List BlockType → Function → List Item
function_items locals parts f = item spaces.«Type» f.ty ∷ origin_items (λ (b : Body). body_items locals b.operators parts) f.origin

abbrev pub init_items : Option Expr → List Item
init_items (Some ops) = expr_items ops
init_items None = []

abbrev pub table_items : Table → List Item
table_items t = ref_items t.element ++ init_items t.init

abbrev pub global_items : Global → List Item
global_items g = value_items g.ty ++ origin_items expr_items g.origin

abbrev pub tag_items : Tag → List Item
tag_items t = item spaces.«Type» t.ty ∷ []

-- an active segment names what it is copied to, and what its offset names
abbrev pub mode_items : Space → Mode → List Item
mode_items space (Active into offset) = item space into ∷ expr_items offset
mode_items space Passive = []
mode_items space Declared = []

abbrev pub held_items : Elements → List Item
held_items (Functions ns) = map (item spaces.Function) ns
held_items (Expressions ty exprs) = ref_items ty ++ flat_map expr_items exprs

abbrev pub element_items : Element → List Item
element_items e = mode_items spaces.Table e.mode ++ held_items e.items

abbrev pub segment_items : Segment → List Item
segment_items d = mode_items spaces.Memory d.mode

-- ---- References

-- the item of a number, if there is one
abbrev pub slot : {A : Type 0} → List (Option A) → ℕ → Option A
slot xs n = slice_index_or xs n None

-- what the item that is there names, if one is
abbrev pub named_by : {A : Type 0} → (A → List Item) → Option A → List Item
named_by items (Some x) = items x
named_by items None = []

-- the segment is active in this table or memory
abbrev pub IsActiveIn : ℕ → Mode → Type 0
IsActiveIn n (Active into offset) = into ≡ n
IsActiveIn n Passive = ⊥
IsActiveIn n Declared = ⊥

-- the segments of a table: those that are active in it, and those that it lists itself and that are there
abbrev pub HasElement : Numbered → ℕ → Item → Type 0
HasElement v n y = (e : ℕ) × (y ≡ item spaces.Element e)
    × (MatchOption (slot v.filled.elements e) ⊥ (λ (x : Element). IsActiveIn n x.mode) ⊎ (Contains (v.own_elements n) e × IsSome (slot v.filled.elements e)))

abbrev pub HasData : Numbered → ℕ → Item → Type 0
HasData v n y = (d : ℕ) × (y ≡ item spaces.Data d)
    × (MatchOption (slot v.filled.segments d) ⊥ (λ (x : Segment). IsActiveIn n x.mode) ⊎ (Contains (v.own_data n) d × IsSome (slot v.filled.segments d)))

-- a type: its group where that is written as one, the types of its form and its supertype; a function: its type, what its body
-- names, and the types of the locals that this names; a table: its element type, its initialiser, its segments; a memory: its
-- segments; a global: its type, its initialiser; a tag: its type; an element segment: its table and offset, its element type and
-- items; a data segment: its memory and offset
abbrev pub RefersIn : Numbered → Space → ℕ → Item → Type 0
RefersIn v spaces.«Type» n y = TypeRefers v n y
RefersIn v spaces.Function n y = Contains (named_by (function_items (v.local_type n) (v.parts n)) (slot v.filled.functions n)) y
RefersIn v spaces.Table n y = Contains (named_by table_items (slot v.filled.tables n)) y ⊎ MatchOption (slot v.filled.tables n) ⊥ (λ (t : Table). HasElement v n y)
RefersIn v spaces.Memory n y = MatchOption (slot v.filled.memories n) ⊥ (λ x. HasData v n y)
RefersIn v spaces.Global n y = Contains (named_by global_items (slot v.filled.globals n)) y
RefersIn v spaces.Tag n y = Contains (named_by tag_items (slot v.filled.tags n)) y
RefersIn v spaces.Element n y = Contains (named_by element_items (slot v.filled.elements n)) y
RefersIn v spaces.Data n y = Contains (named_by segment_items (slot v.filled.segments n)) y
RefersIn v spaces.Local n y = ⊥
RefersIn v spaces.Label n y = ⊥

-- the one item names the other
abbrev pub Refers : Numbered → Item → Item → Type 0
Refers v x y = RefersIn v x.space x.number y

-- The part of a module that meets the rules meets them, where it is closed under what its items name.
use Rattle.std.specs.Prelude.{ℕ, ◌≡◌, ◌<◌, Bool, true, List, length, filter, Option, Some, None, slice_get, slice_index_or}
use Rattle.std.specs.List.{AllByRecursion, list_any}
use Rattle.walrus_forms.specs.declared.value.ValType.{ValType}
use Rattle.walrus_forms.specs.Values.{ref_name, value_name}
use Rattle.walrus_forms.specs.Kinds.{Kind}
use Rattle.walrus_forms.specs.Renaming.{renamed_kind}
use Rattle.wasm_features.specs.declared.WasmFeatures.{WasmFeatures}
use Rattle.wasm_formats.specs.declared.fault.Space.{Space as FileSpace}
use Rattle.wasm_formats.specs.declared.fault.Space.TheVariants as spaces
use Rattle.wasm_operators.specs.declared.block_type.BlockType.TheVariants as blocks
use Rattle.wasm_operators.specs.Items.{Space, Types, Functions, Tables, Memories, Tags, Globals, ElementSegments, DataSegments, Locals, Labels, Item as Immediate, Block}
use Rattle.wasm_operators.specs.Operators.{Seen}
use Rattle.wasm_operators.specs.Names.{Name, operator_names}
use Rattle.wasm_grammar.specs.Modules.{Expr, Origin, Imported, Own, Placed, Body, Function, Table, Global, Tag, Mode, Passive, Declared, Active, Elements, Functions as Listed, Expressions, Element, Segment, Import, Export, Module}
use Rattle.wasm_grammar.specs.States.{types_of}
use Rattle.wasm_body_grammar.specs.Rules.{Around, block_test, is_segment}
use Rattle.wasm_ruled_modules.specs.Rules.{GroupsBelow, around_bodies, is_imported}
use Rattle.wasm_normal_modules.specs.Modules.{MeetsRules}
use Rattle.wasm_part.specs.Part.{IsIn, Plan, part}

-- ---- what an item names is in the part

-- where it names a data segment there is a data count section
abbrev pub SegmentCounts : Bool → Seen → Type 0
SegmentCounts counted op = list_any (λ (n : Name). is_segment n.0) (operator_names op) ≡ true → counted ≡ true

module _ (p : Plan) where
  -- a label isn't an item, and locals stay in their function
  abbrev pub NumberIn : Space → ℕ → Type 0
  NumberIn Locals n = Unit {0}
  NumberIn Labels n = Unit {0}
  NumberIn space n = IsIn p space n

  abbrev pub NameIn : Name → Type 0
  NameIn n = NumberIn n.0 n.1

  abbrev pub OperatorIn : Seen → Type 0
  OperatorIn op = AllByRecursion NameIn (operator_names op)

  abbrev pub TypeIn : Option ℕ → Type 0
  TypeIn None = Unit {0}
  TypeIn (Some n) = IsIn p Types n

  abbrev pub ExprIn : Expr → Type 0
  ExprIn ops = AllByRecursion OperatorIn ops

  abbrev pub InitIn : Option Expr → Type 0
  InitIn None = Unit {0}
  InitIn (Some e) = ExprIn e

  abbrev pub OwnIn : Origin Expr → Type 0
  OwnIn (Imported n) = Unit {0}
  OwnIn (Own e) = ExprIn e

  abbrev pub ModeIn : Space → Mode → Type 0
  ModeIn space (Active into offset) = IsIn p space into × ExprIn offset
  ModeIn space Passive = Unit {0}
  ModeIn space Declared = Unit {0}

  abbrev pub ItemsIn : Elements → Type 0
  ItemsIn (Listed ns) = AllByRecursion (λ n. IsIn p Functions n) ns
  ItemsIn (Expressions ty es) = TypeIn (ref_name ty) × AllByRecursion ExprIn es

  abbrev pub ItemIn : FileSpace → ℕ → Type 0
  ItemIn spaces.«Type» n = IsIn p Types n
  ItemIn spaces.Function n = IsIn p Functions n
  ItemIn spaces.Table n = IsIn p Tables n
  ItemIn spaces.Memory n = IsIn p Memories n
  ItemIn spaces.Tag n = IsIn p Tags n
  ItemIn spaces.Global n = IsIn p Globals n
  ItemIn spaces.Element n = IsIn p ElementSegments n
  ItemIn spaces.Data n = IsIn p DataSegments n
  ItemIn spaces.Local n = Unit {0}
  ItemIn spaces.Label n = Unit {0}

  abbrev pub StartIn : Option ℕ → Type 0
  StartIn None = Unit {0}
  StartIn (Some n) = IsIn p Functions n

  -- a type that a block may have is one there, too
  abbrev pub BlockServes : Around → Around → Immediate → Type 0
  BlockServes a b (Block (blocks.Type n)) = block_test a (blocks.Type n) ≡ None → block_test b (blocks.Type (p.renames Types n)) ≡ None
  BlockServes a b _ = Unit {0}

  abbrev pub PlacedIn : Around → Around → Placed → Type 0
  PlacedIn a b o = OperatorIn o.op × AllByRecursion (BlockServes a b) o.op.items × SegmentCounts b.counted o.op

  abbrev pub BodyIn : Around → Around → Origin Body → Type 0
  BodyIn a b (Imported n) = Unit {0}
  BodyIn a b (Own x) = AllByRecursion (λ (ty : ValType). TypeIn (value_name ty)) x.locals × AllByRecursion (PlacedIn a b) x.operators

  -- of each item of the list that is there
  abbrev pub Of : {A : Type 0} → (A → Type 0) → List ℕ → List (Option A) → Type 0
  Of {A} P ns xs = (i n : ℕ) → slice_get ns i ≡ Some n → (x : A) → slice_index_or xs n None ≡ Some x → P x

  -- what the part's items name is in it
  pub record IsClosed (a b : Around) (m : Module) : Type 0 where
    pub functions : Of (λ (f : Function). IsIn p Types f.ty × BodyIn a b f.origin) (p.listed Functions) m.functions
    pub tables : Of (λ (t : Table). TypeIn (ref_name t.element) × InitIn t.init) (p.listed Tables) m.tables
    pub tags : Of (λ (t : Tag). IsIn p Types t.ty) (p.listed Tags) m.tags
    pub globals : Of (λ (g : Global). TypeIn (value_name g.ty) × OwnIn g.origin) (p.listed Globals) m.globals
    pub elements : Of (λ (e : Element). ModeIn Tables e.mode × ItemsIn e.items) (p.listed ElementSegments) m.elements
    pub segments : Of (λ (x : Segment). ModeIn Memories x.mode) (p.listed DataSegments) m.segments
    pub imports : Of (λ (i : Import). ItemIn i.item.space i.item.number) p.imports m.imports
    pub exports : Of (λ (e : Export). ItemIn e.item.space e.item.number) p.exports m.exports
    pub start : StartIn m.start
    pub declared : AllByRecursion (AllByRecursion (λ n. IsIn p Functions n)) p.declared

-- a type of the part stands there, renamed
pub record TypeStands (p : Plan) (m : Module) (n : ℕ) : Type 0 where
  pub kind : Kind
  pub is : slice_get (types_of m) n ≡ Some kind
  pub stands : slice_get (types_of (part p m)) (p.renames Types n) ≡ Some (renamed_kind (p.renames Types) kind)

-- ---- the plan

-- spaces whose items stand in lists, types aside
abbrev pub IsListed : Space → Type 0
IsListed Types = ⊥
IsListed Locals = ⊥
IsListed Labels = ⊥
IsListed space = Unit {0}

-- numbers in a rising order
abbrev pub Rise : List ℕ → Type 0
Rise ns = (i j k n : ℕ) → i < j → slice_get ns i ≡ Some k → slice_get ns j ≡ Some n → k < n

pub record IsPlan (features : WasmFeatures) (counted : Bool) (p : Plan) (m : Module) : Type 0 where
  pub labels : (n : ℕ) → p.renames Labels n ≡ n
  pub locals : (n : ℕ) → p.renames Locals n ≡ n
  -- at each place stands the item that has it as its new number
  pub only : (space : Space) (i n : ℕ) → IsListed space → slice_get (p.listed space) i ≡ Some n → p.renames space n ≡ i
  -- the groups name types that are there, and types stand renamed
  pub groups : GroupsBelow 0 p.groups
  pub types : (n : ℕ) → IsIn p Types n → TypeStands p m n
  -- imported globals come first, and globals keep their order, which their initialisers follow
  pub globals : Rise (p.listed Globals)
  pub imported : (n : ℕ) → IsIn p Globals n → n < length (filter is_imported m.globals) → p.renames Globals n < length (filter is_imported (part p m).globals)
  -- exports keep their order
  pub exports : Rise p.exports

-- so the part of a module that meets the rules meets them
abbrev pub PartsAreRuled : Type 0
PartsAreRuled = (features : WasmFeatures) (before counted : Bool) (p : Plan) (m : Module) → IsPlan features counted p m
    → IsClosed p (around_bodies features before m) (around_bodies features counted (part p m)) m → MeetsRules features before m → MeetsRules features counted (part p m)

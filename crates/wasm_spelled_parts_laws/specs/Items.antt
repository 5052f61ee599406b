-- What it takes of the items of a module to have spellings (Core Specification, binary format: values, types, instructions, modules), the numbers of items aside.
use Rattle.std.specs.Prelude.{ℕ, ◌<◌, ◌≤◌, ◌^◌, ◌≡◌, ◌⊎◌, Bool, true, List, All, length, Option, Some, None}
use Rattle.std.specs.List.{AllByRecursion}
use Rattle.std.specs.Str.{is_utf8}
use Rattle.walrus_forms.specs.declared.value.FieldType.{FieldType}
use Rattle.walrus_forms.specs.declared.value.RefType.{RefType}
use Rattle.walrus_forms.specs.declared.value.StorageType.{StorageType}
use Rattle.walrus_forms.specs.declared.value.StorageType.TheVariants.{I8, I16, Val}
use Rattle.walrus_forms.specs.declared.value.ValType.{ValType}
use Rattle.walrus_forms.specs.Forms.{ArrayForm, Form, FunctionForm, StructForm}
use Rattle.walrus_forms.specs.Kinds.{Kind}
use Rattle.walrus_forms.specs.Records.{TypeGroup}
use Rattle.wasm_features.specs.declared.WasmFeatures.{WasmFeatures}
use Rattle.wasm_formats.specs.Bytes.{either_type}
use Rattle.wasm_ref_types.specs.TypeSpellings.{HasGcTypes}
use Rattle.wasm_operators.specs.Ranges.{OperatorFits, ReferenceFits, ValueFits}
use Rattle.wasm_grammar.specs.Modules.{Body, Custom, Element, Elements, Export, Expressions, Function, Functions, Global, Import, Imported, Memory, Module, Origin, Own, Placed, Segment, Table}
use Rattle.wasm_grammar.specs.TypeWords.{ref_from, value_from}
use Rattle.wasm_modules.specs.Modules.{Reads}
use Rattle.wasm_module_rules.specs.Linked.{Each}
use Rattle.wasm_spelled_modules.specs.Spelled.{InitIsSpelled, IsSpelled, ModeIsSpelled, OriginIsSpelled}

module _ (features : WasmFeatures) where
  -- ---- types

  abbrev pub ValueIn : ValType → Type 0
  ValueIn ty = ValueFits features (value_from ty)

  abbrev pub RefIn : RefType → Type 0
  RefIn ty = ReferenceFits features (ref_from ty)

  abbrev pub StorageIn : StorageType → Type 0
  StorageIn I8 = Unit {0}
  StorageIn I16 = Unit {0}
  StorageIn (Val ty) = ValueIn ty

  abbrev pub FieldIn : FieldType → Type 0
  FieldIn field = StorageIn field.element_type

  -- structures and arrays are garbage-collected types
  abbrev pub FormIn : Form → Type 0
  FormIn (FunctionForm params results) = ((length params ≤ 1000) × AllByRecursion ValueIn params) × ((length results ≤ 1000) × AllByRecursion ValueIn results)
  FormIn (StructForm fields) = HasGcTypes features × ((length fields ≤ 10000) × AllByRecursion FieldIn fields)
  FormIn (ArrayForm field) = HasGcTypes features × FieldIn field

  abbrev pub SupertypeIn : Option ℕ → Type 0
  SupertypeIn None = Unit {0}
  SupertypeIn (Some n) = n < 2 ^ 20

  pub record KindIn (kind : Kind) : Type 0 where
    pub form : FormIn kind.form
    pub supertype : SupertypeIn kind.supertype
    -- so are types that aren't final or have a supertype
    pub shown : HasGcTypes features ⊎ ((kind.final ≡ true) × (kind.supertype ≡ None))

  -- so are groups that are written as one; another has one type at most
  abbrev pub GroupIn : TypeGroup → Type 0
  GroupIn g = (g.marked ≡ true → HasGcTypes features) × ((g.marked ≡ true) ⊎ (length g.kinds ≤ 1)) × AllByRecursion KindIn g.kinds

  -- ---- items

  abbrev pub BodyIn : Body → Type 0
  BodyIn x = AllByRecursion ValueIn x.locals × AllByRecursion (λ (o : Placed). OperatorFits features o.op) x.operators

  abbrev pub OriginIn : Origin Body → Type 0
  OriginIn (Imported n) = Unit {0}
  OriginIn (Own x) = BodyIn x

-- a name of at most 100,000 bytes
abbrev pub NameIn : List ℕ → Type 0
NameIn text = (length text ≤ 100000) × (is_utf8 text ≡ true)

-- a size, of 64 bits or of 32
abbrev pub SizeIn : (wide : Bool) → ℕ → Type 0
SizeIn wide n = either_type wide (n < 2 ^ 64) (n < 2 ^ 32)

abbrev pub MaximumIn : (wide : Bool) → Option ℕ → Type 0
MaximumIn wide None = Unit {0}
MaximumIn wide (Some n) = SizeIn wide n

abbrev pub NumberIn : Option ℕ → Type 0
NumberIn None = Unit {0}
NumberIn (Some n) = n < 2 ^ 32

module _ (features : WasmFeatures) where
  abbrev pub TableIn : Table → Type 0
  TableIn t = (RefIn features t.element × (SizeIn t.wide t.initial × MaximumIn t.wide t.maximum)) × InitIsSpelled features t.init

  abbrev pub MemoryIn : Memory → Type 0
  MemoryIn x = (SizeIn x.wide x.initial × MaximumIn x.wide x.maximum) × NumberIn x.page_size_log2

  abbrev pub GlobalIn : Global → Type 0
  GlobalIn g = ValueIn features g.ty × OriginIsSpelled features g.origin

  abbrev pub ItemsIn : Elements → Type 0
  ItemsIn (Functions ns) = length ns < 2 ^ 32
  ItemsIn (Expressions ty es) = RefIn features ty × ((length es < 2 ^ 32) × AllByRecursion (IsSpelled features) es)

  abbrev pub ElementIn : Element → Type 0
  ElementIn e = ModeIsSpelled features e.mode × ItemsIn e.items

  abbrev pub SegmentIn : Segment → Type 0
  SegmentIn x = ModeIsSpelled features x.mode × ((length x.bytes < 2 ^ 32) × AllByRecursion (λ (b : ℕ). b < 256) x.bytes)

  abbrev pub ImportIn : Import → Type 0
  ImportIn i = NameIn i.space_name × NameIn i.name

  -- each item is within its limits
  pub record AreIn (m : Module) : Type 0 where
    pub groups : AllByRecursion (GroupIn features) m.groups
    pub imports : Each ImportIn m.imports
    pub functions : Each (λ (f : Function). OriginIn features f.origin) m.functions
    pub tables : Each TableIn m.tables
    pub memories : Each MemoryIn m.memories
    pub globals : Each GlobalIn m.globals
    pub exports : Each (λ (e : Export). NameIn e.name) m.exports
    pub elements : Each ElementIn m.elements
    pub segments : Each SegmentIn m.segments
    pub customs : Each (λ (c : Custom). NameIn c.name) m.customs

-- those of what is read are
abbrev pub ReadItemsAreIn : Type 0
ReadItemsAreIn = (features : WasmFeatures) (bytes : List ℕ) (file : Module) → All (λ (b : ℕ). b < 256) bytes → Reads features bytes file → AreIn features file

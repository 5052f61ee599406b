-- A module in its normal form among other types: the index of each type is sent elsewhere, and each body has its normal form. What it comes from
-- met the rules; so does it.
use Rattle.std.specs.Prelude.{ℕ, ◌≡◌, Bool, true, List, [], map, Option}
use Rattle.std.specs.List.{AllByRecursion}
use Rattle.std.specs.Option.{option_map}
use Rattle.wasm_ruled_renamed.specs.wasm_ruled_normal.wasm_ruled_modules.wasm_module_rules.wasm_modules.wasm_body_grammar.wasm_grammar.walrus_forms.Records.{TypeGroup}
use Rattle.wasm_ruled_renamed.specs.wasm_ruled_normal.wasm_ruled_modules.wasm_module_rules.wasm_modules.wasm_body_grammar.wasm_grammar.walrus_forms.Renaming.{renamed_ref, renamed_value}
use Rattle.wasm_ruled_renamed.specs.wasm_ruled_normal.wasm_ruled_modules.wasm_module_rules.wasm_modules.wasm_body_grammar.Codes.{param_count}
use Rattle.wasm_ruled_renamed.specs.wasm_ruled_normal.wasm_ruled_modules.wasm_module_rules.wasm_modules.wasm_body_grammar.Rules.{Around}
use Rattle.wasm_ruled_renamed.specs.wasm_ruled_normal.wasm_ruled_modules.wasm_module_rules.wasm_modules.wasm_body_grammar.wasm_formats.declared.fault.Space.TheVariants as spaces
use Rattle.wasm_ruled_renamed.specs.wasm_ruled_normal.wasm_ruled_modules.wasm_module_rules.wasm_modules.wasm_body_grammar.wasm_formats.wasm_features.declared.WasmFeatures.{WasmFeatures}
use Rattle.wasm_ruled_renamed.specs.wasm_ruled_normal.wasm_ruled_modules.wasm_module_rules.wasm_modules.wasm_body_grammar.wasm_grammar.Modules.{Expr, Origin, Imported, Own, Body, Function, Table, Global, Tag, Mode, Passive, Declared, Active, Elements, Functions, Expressions, Element, Segment, Import, Export, Module}
use Rattle.wasm_ruled_renamed.specs.wasm_ruled_normal.wasm_ruled_modules.wasm_module_rules.wasm_modules.wasm_body_grammar.wasm_operators.Names.{Renaming, renamed_operator}
use Rattle.wasm_ruled_renamed.specs.wasm_ruled_normal.wasm_ruled_modules.wasm_module_rules.wasm_modules.wasm_body_grammar.wasm_operators.Items.{Types}
use Rattle.wasm_ruled_renamed.specs.wasm_ruled_normal.wasm_ruled_modules.wasm_module_rules.Linked.{Each, IsLinked}
use Rattle.wasm_ruled_renamed.specs.wasm_ruled_normal.wasm_ruled_modules.wasm_module_rules.wasm_modules.Modules.{Reads}
use Rattle.wasm_ruled_renamed.specs.wasm_ruled_normal.wasm_ruled_modules.Rules.{AreExpressed, AreNamed, GroupsBelow, HasBody, around_bodies}
use Rattle.wasm_ruled_renamed.specs.wasm_ruled_normal.Normal.{OpensPicked}
use Rattle.wasm_ruled_renamed.specs.Bodies.{normal_renamed}
use Rattle.wasm_ruled_renamed.specs.Types.{Retypes, RetypesInOrder}

-- ---- items with the indices of their types sent elsewhere

-- what isn't a type's keeps its number
abbrev pub by_types : (ℕ → ℕ) → Renaming
by_types r Types n = r n
by_types r space n = n

abbrev pub retyped_expr : (ℕ → ℕ) → Expr → Expr
retyped_expr r = map (renamed_operator (by_types r))

abbrev pub retyped_origin : (ℕ → ℕ) → Origin Expr → Origin Expr
retyped_origin r (Imported n) = Imported n
retyped_origin r (Own e) = Own (retyped_expr r e)

abbrev pub retyped_table : (ℕ → ℕ) → Table → Table
retyped_table r t = record t { element = renamed_ref r t.element; init = option_map (retyped_expr r) t.init }

abbrev pub retyped_tag : (ℕ → ℕ) → Tag → Tag
retyped_tag r t = record t { ty = r t.ty }

abbrev pub retyped_global : (ℕ → ℕ) → Global → Global
retyped_global r g = record g { ty = renamed_value r g.ty; origin = retyped_origin r g.origin }

abbrev pub retyped_mode : (ℕ → ℕ) → Mode → Mode
retyped_mode r (Active into offset) = Active into (retyped_expr r offset)
retyped_mode r Passive = Passive
retyped_mode r Declared = Declared

abbrev pub retyped_items : (ℕ → ℕ) → Elements → Elements
retyped_items r (Functions ns) = Functions ns
retyped_items r (Expressions ty es) = Expressions (renamed_ref r ty) (map (retyped_expr r) es)

abbrev pub retyped_element : (ℕ → ℕ) → Element → Element
retyped_element r e = record { mode = retyped_mode r e.mode; items = retyped_items r e.items }

abbrev pub retyped_segment : (ℕ → ℕ) → Segment → Segment
retyped_segment r x = record x { mode = retyped_mode r x.mode }

abbrev pub each : {A : Type 0} → (A → A) → List (Option A) → List (Option A)
each f = map (option_map f)

-- ---- functions with their bodies in normal form

module _ (place : Option ℕ → ℕ) (a : Around) (r : ℕ → ℕ) where
  abbrev pub normal_origin : (params : ℕ) → Origin Body → Origin Body
  normal_origin params (Imported n) = Imported n
  normal_origin params (Own x) = Own (normal_renamed place a (by_types r) params x)

  abbrev pub normal_function : Function → Function
  normal_function f = record { ty = r f.ty; origin = normal_origin (param_count a.filled f.ty) f.origin }

-- the module in its normal form, with these groups of types; custom sections are told apart
abbrev pub normal_module : (Option ℕ → ℕ) → Around → (ℕ → ℕ) → List TypeGroup → Module → Module
normal_module place a r groups m = record {
  groups = groups;
  imports = m.imports;
  functions = each (normal_function place a r) m.functions;
  tables = each (retyped_table r) m.tables;
  memories = m.memories;
  tags = each (retyped_tag r) m.tags;
  globals = each (retyped_global r) m.globals;
  exports = m.exports;
  start = m.start;
  elements = each (retyped_element r) m.elements;
  segments = each (retyped_segment r) m.segments;
  customs = [];
}

-- ---- the law

-- the rules, but for how many items a module may have
pub record MeetsRules (features : WasmFeatures) (counted : Bool) (m : Module) : Type 0 where
  pub linked : IsLinked m
  pub groups : GroupsBelow 0 m.groups
  pub named : AreNamed m
  pub expressed : AreExpressed m
  pub bodies : Each (λ (f : Function). HasBody (around_bodies features counted m) f) m.functions

-- what meets them without a data count section meets them with one
abbrev pub RulesHoldCounted : Type 0
RulesHoldCounted = (features : WasmFeatures) (counted : Bool) (m : Module) → MeetsRules features counted m → MeetsRules features true m

-- no type is imported or exported
pub record BringsNoTypes (m : Module) : Type 0 where
  pub imports : Each (λ (i : Import). i.item.space ≡ spaces.«Type» → ⊥) m.imports
  pub exports : Each (λ (e : Export). e.item.space ≡ spaces.«Type» → ⊥) m.exports

-- the normal form of a module that meets the rules meets them, with types among which its own stand, renamed
abbrev pub NormalModulesAreRuled : Type 0
NormalModulesAreRuled = (place : Option ℕ → ℕ) (features : WasmFeatures) (counted : Bool) (r : ℕ → ℕ) (groups : List TypeGroup) (m : Module)
    → (let a = around_bodies features counted m in let n = normal_module place a r groups m in
    Retypes r a (around_bodies features counted n) → GroupsBelow 0 groups → BringsNoTypes m → MeetsRules features counted m → MeetsRules features counted n)

-- ---- block types are their picks

abbrev pub OriginPicked : Around → Origin Body → Type 0
OriginPicked a (Imported n) = Unit {0}
OriginPicked a (Own x) = AllByRecursion (OpensPicked a) x.operators

-- where types are sent in their order, each block type of the normal form is its own pick there
abbrev pub BlockTypesAreTheirPicks : Type 0
BlockTypesAreTheirPicks = (place : Option ℕ → ℕ) (features : WasmFeatures) (counted : Bool) (r : ℕ → ℕ) (groups : List TypeGroup) (m : Module)
    → (let a = around_bodies features counted m in let n = normal_module place a r groups m in let b = around_bodies features counted n in
    RetypesInOrder r a b → MeetsRules features counted m → Each (λ (f : Function). OriginPicked b f.origin) n.functions)

-- ---- types as they are

-- the normal form of a module, with its types as they are
abbrev pub own_normal : (Option ℕ → ℕ) → WasmFeatures → Bool → Module → Module
own_normal place features counted m = normal_module place (around_bodies features counted m) (λ n. n) m.groups m

-- that of a module that meets the rules meets them, and each block type in it is its own pick
abbrev pub OwnNormalFormsAreRuled : Type 0
OwnNormalFormsAreRuled = (place : Option ℕ → ℕ) (features : WasmFeatures) (counted : Bool) (m : Module) → BringsNoTypes m → MeetsRules features counted m
    → (let n = own_normal place features counted m in
    MeetsRules features counted n × Each (λ (f : Function). OriginPicked (around_bodies features counted n) f.origin) n.functions)

-- ---- modules that are read

-- no module that is read imports or exports a type
abbrev pub ReadModulesBringNoTypes : Type 0
ReadModulesBringNoTypes = (features : WasmFeatures) (bytes : List ℕ) (m : Module) → Reads features bytes m → BringsNoTypes m

-- a module that is read meets the rules: taken to have a data count section, which a module doesn't tell
abbrev pub ReadModulesMeetRules : Type 0
ReadModulesMeetRules = (features : WasmFeatures) (bytes : List ℕ) (m : Module) → Reads features bytes m → MeetsRules features true m

-- so does its normal form, and each block type in that is its own pick
abbrev pub NormalFormsOfReadModulesAreRuled : Type 0
NormalFormsOfReadModulesAreRuled = (place : Option ℕ → ℕ) (features : WasmFeatures) (bytes : List ℕ) (m : Module) → Reads features bytes m
    → (let n = own_normal place features true m in
    MeetsRules features true n × Each (λ (f : Function). OriginPicked (around_bodies features true n) f.origin) n.functions)

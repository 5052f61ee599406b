-- What is asked of a module beyond its bytes, field by field (Core Specification, valid modules; implementation limitations).
use Rattle.std.specs.Prelude.{ℕ, ◌+◌, ◌≤◌, ◌≡◌, ◌⊎◌, Bool, true, false, not, List, [], ◌∷◌, ◌++◌, length, map, filter, Option, Some, None, slice_index_or}
use Rattle.std.specs.Option.{is_some}
use Rattle.wasm_features.specs.declared.WasmFeatures.{WasmFeatures}
use Rattle.walrus_forms.specs.declared.value.ValType.{ValType}
use Rattle.walrus_forms.specs.Kinds.{Kind}
use Rattle.wasm_operators.specs.Operators.{flow_of}
use Rattle.walrus_forms.specs.Records.{TypeGroup}
use Rattle.walrus_forms.specs.Renaming.{RefBelow, ValueBelow, KindBelow}
use Rattle.wasm_module_rules.specs.wasm_modules.wasm_body_grammar.wasm_grammar.Modules.{Expr, Origin, Imported, Own, Placed, Body, Function, Table, Memory, Global, Mode, Passive, Declared, Active, Elements, Functions, Expressions, Element, Segment, Module}
use Rattle.wasm_module_rules.specs.wasm_modules.wasm_body_grammar.wasm_grammar.Exprs.{Known, is_constant, items_test, some_operators, offset_test}
use Rattle.wasm_module_rules.specs.wasm_modules.wasm_body_grammar.wasm_grammar.States.{types_of}
use Rattle.wasm_module_rules.specs.wasm_modules.wasm_sections.Segments.{wide_table, wide_memory}
use Rattle.wasm_module_rules.specs.wasm_modules.wasm_sections.Entities.{no_body}
use Rattle.wasm_module_rules.specs.wasm_modules.wasm_body_grammar.Frames.{Frame, Plain, turned}
use Rattle.wasm_module_rules.specs.wasm_modules.wasm_body_grammar.Rules.{Around, operator_test}
use Rattle.wasm_module_rules.specs.wasm_modules.wasm_body_grammar.Bodies.{most_locals, is_closed, frames_of}
use Rattle.wasm_module_rules.specs.wasm_modules.wasm_body_grammar.Codes.{param_count}
use Rattle.wasm_module_rules.specs.wasm_modules.Modules.{same_of, Reads}
use Rattle.wasm_module_rules.specs.Linked.{Each, IsLinked}

-- ---- no list is longer than it may be

pub record IsCounted (m : Module) : Type 0 where
  pub types : length (types_of m) ≤ 1000000
  pub imports : length m.imports ≤ 1000000
  pub functions : length m.functions ≤ 1000000
  pub tables : length m.tables ≤ 100
  pub memories : length m.memories ≤ 100
  pub tags : length m.tags ≤ 1000000
  pub globals : length m.globals ≤ 1000000
  pub exports : length m.exports ≤ 1000000
  pub elements : length m.elements ≤ 100000
  pub segments : length m.segments ≤ 100000

-- ---- types name types below the end of their group

abbrev pub AreBelow : ℕ → List Kind → Type 0
AreBelow end [] = Unit {0}
AreBelow end (kind ∷ kinds) = KindBelow end kind × AreBelow end kinds

-- groups behind so many types
abbrev pub GroupsBelow : ℕ → List TypeGroup → Type 0
GroupsBelow types [] = Unit {0}
GroupsBelow types (g ∷ groups) = AreBelow (types + length g.kinds) g.kinds × GroupsBelow (types + length g.kinds) groups

-- ---- items name types that are there; a page has 1 byte or 65,536

abbrev pub ItemsBelow : ℕ → Elements → Type 0
ItemsBelow types (Functions ns) = Unit {0}
ItemsBelow types (Expressions ty es) = RefBelow types ty

abbrev pub IsPageSize : Option ℕ → Type 0
IsPageSize None = Unit {0}
IsPageSize (Some n) = (n ≡ 0) ⊎ (n ≡ 16)

pub record AreNamed (m : Module) : Type 0 where
  pub tables : Each (λ (t : Table). RefBelow (length (types_of m)) t.element) m.tables
  pub globals : Each (λ (g : Global). ValueBelow (length (types_of m)) g.ty) m.globals
  pub elements : Each (λ (e : Element). ItemsBelow (length (types_of m)) e.items) m.elements
  pub pages : Each (λ (x : Memory). IsPageSize x.page_size_log2) m.memories

-- ---- constant expressions: each operator is one of theirs, what they name is known, and there is one at least

abbrev pub AreKnown : Known → Expr → Type 0
AreKnown k [] = Unit {0}
AreKnown k (op ∷ ops) = (is_constant op.code ≡ true) × (items_test k op.items ≡ None) × AreKnown k ops

abbrev pub IsExpr : Known → Expr → Type 0
IsExpr k ops = AreKnown k ops × (some_operators ops ≡ true)

abbrev pub AreExprs : Known → List Expr → Type 0
AreExprs k [] = Unit {0}
AreExprs k (e ∷ es) = IsExpr k e × AreExprs k es

abbrev pub IsInit : Known → Option Expr → Type 0
IsInit k None = Unit {0}
IsInit k (Some e) = IsExpr k e

-- what is known of all of a module
abbrev pub knows : Module → Known
knows m = record { types = length (types_of m); functions = length m.functions; globals = m.globals }

abbrev pub own_init : Origin Expr → Option Expr
own_init (Imported n) = None
own_init (Own e) = Some e

abbrev pub Sees : Known → Option Global → Type 0
Sees k None = Unit {0}
Sees k (Some g) = IsInit k (own_init g.origin)

-- a global's expression sees the globals before it
abbrev pub GlobalsSee : ℕ → ℕ → List (Option Global) → List (Option Global) → Type 0
GlobalsSee types functions earlier [] = Unit {0}
GlobalsSee types functions earlier (g ∷ gs) =
    Sees (record { types = types; functions = functions; globals = earlier }) g × GlobalsSee types functions (earlier ++ g ∷ []) gs

-- an offset of one operator has the type of the addresses of where it goes
abbrev pub IsPlaced : (ℕ → Bool) → Known → Mode → Type 0
IsPlaced wide k (Active n offset) = IsExpr k offset × (offset_test (wide n) k offset ≡ None)
IsPlaced wide k Passive = Unit {0}
IsPlaced wide k Declared = Unit {0}

abbrev pub table_wide : List (Option Table) → ℕ → Bool
table_wide tables n = wide_table (slice_index_or tables n None)

abbrev pub memory_wide : List (Option Memory) → ℕ → Bool
memory_wide memories n = wide_memory (slice_index_or memories n None)

abbrev pub ItemsKnown : Known → Elements → Type 0
ItemsKnown k (Functions ns) = Unit {0}
ItemsKnown k (Expressions ty es) = AreExprs k es

-- what is known where tables stand: of the globals those that are imported
abbrev pub is_imported : Option Global → Bool
is_imported None = false
is_imported (Some g) = not (is_some (own_init g.origin))

abbrev pub knows_imported : Module → Known
knows_imported m = record { types = length (types_of m); functions = length m.functions; globals = filter is_imported m.globals }

pub record AreExpressed (m : Module) : Type 0 where
  pub tables : Each (λ (t : Table). IsInit (knows_imported m) t.init) m.tables
  pub globals : GlobalsSee (length (types_of m)) (length m.functions) [] m.globals
  pub offsets : Each (λ (e : Element). IsPlaced (table_wide m.tables) (knows m) e.mode) m.elements
  pub items : Each (λ (e : Element). ItemsKnown (knows m) e.items) m.elements
  pub segments : Each (λ (x : Segment). IsPlaced (memory_wide m.memories) (knows m) x.mode) m.segments

-- ---- bodies

-- operators inside these frames: each names what is there and stands where it may, and the last one closes the body
abbrev pub AreOperators : Around → ℕ → List Frame → List Placed → Type 0
AreOperators a locals frames [] = is_closed frames ≡ true
AreOperators a locals frames (p ∷ ops) =
    (is_closed frames ≡ false) × (operator_test a locals frames p.op ≡ None) × AreOperators a locals (frames_of (turned (flow_of p.op.code) frames) frames) ops

abbrev pub LocalsBelow : ℕ → List ValType → Type 0
LocalsBelow types [] = Unit {0}
LocalsBelow types (ty ∷ tys) = ValueBelow types ty × LocalsBelow types tys

-- the body of a function of so many parameters, which are tested where there are locals
pub record IsBody (a : Around) (params : ℕ) (x : Body) : Type 0 where
  pub counted : (length x.locals ≡ 0) ⊎ (params + length x.locals ≤ most_locals)
  pub named : LocalsBelow (length (types_of a.filled)) x.locals
  pub operators : AreOperators a (params + length x.locals) (Plain ∷ []) x.operators

-- a module without its bodies: these are ruled by what is around them
abbrev pub bare_origin : Origin Body → Origin Body
bare_origin (Imported n) = Imported n
bare_origin (Own body) = Own no_body

abbrev pub bare_slot : Option Function → Option Function
bare_slot None = None
bare_slot (Some f) = Some (record f { origin = bare_origin f.origin })

abbrev pub bare : Module → Module
bare m = record m { functions = map bare_slot m.functions }

-- counted: there is a data count section, which the bytes alone say
abbrev pub around_bodies : WasmFeatures → Bool → Module → Around
around_bodies features counted m = record { features = features; filled = bare m; same = same_of m; counted = counted }

abbrev pub OriginRuled : Around → ℕ → Origin Body → Type 0
OriginRuled a params (Imported n) = Unit {0}
OriginRuled a params (Own body) = IsBody a params body

abbrev pub HasBody : Around → Function → Type 0
HasBody a f = OriginRuled a (param_count a.filled f.ty) f.origin

-- ---- all of it

pub record IsRuled (features : WasmFeatures) (counted : Bool) (m : Module) : Type 0 where
  pub linked : IsLinked m
  pub lists : IsCounted m
  pub groups : GroupsBelow 0 m.groups
  pub named : AreNamed m
  pub expressed : AreExpressed m
  pub bodies : Each (λ (f : Function). HasBody (around_bodies features counted m) f) m.functions

-- what reads meets them
abbrev pub ReadModulesAreRuled : Type 0
ReadModulesAreRuled = (features : WasmFeatures) (bytes : List ℕ) (m : Module) → Reads features bytes m → (counted : Bool) × IsRuled features counted m

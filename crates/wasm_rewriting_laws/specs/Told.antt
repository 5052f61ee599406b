-- The part that is written of a module is told by the module.
use Rattle.std.specs.Prelude.{ℕ, ◌≡◌, Bool, List, Some, None, slice_index_or}
use Rattle.walrus_types.specs.Table.{Table}
use Rattle.wasm_features.specs.declared.WasmFeatures.{WasmFeatures}
use Rattle.wasm_operators.specs.Items.{Space}
use Rattle.wasm_grammar.specs.Modules.{Function, Item, Module}
use Rattle.wasm_import_links.specs.Links.{ImportsLink}
use Rattle.wasm_part.specs.Part.{IsIn, Plan, part}
use Rattle.wasm_part.specs.Kept.{IsShared, LocalsNamed}
use Rattle.wasm_part.specs.Order.{HasDeclared, InOrder}
use Rattle.wasm_part.specs.Seen.{seen_as}
use Rattle.wasm_part.specs.Written.{WritesKept}

-- by the plan what is kept of a module is written, its types as this table writes them, its other items in their order, with the segment that declares functions
pub record IsPlanOf (features : WasmFeatures) (m : Module) (keep : Bool) (pushed : List Item) (t : Table) (p : Plan) : Type 0 where
  pub writes : WritesKept (seen_as features m) keep pushed t p
  pub ordered : InOrder m p
  pub declared : HasDeclared m p p.declared

-- imports and the items that they bring name one another, and functions name the types of the locals that their bodies declare
pub record NamesAll (features : WasmFeatures) (m : Module) : Type 0 where
  pub linked : ImportsLink m
  pub locals : (n : ℕ) (f : Function) → slice_index_or m.functions n None ≡ Some f → LocalsNamed (seen_as features m) n f f.origin

-- two plans list the same items, and give them the same numbers
pub record AreAlike (p q : Plan) : Type 0 where
  pub listed : (space : Space) → IsShared space → p.listed space ≡ q.listed space
  pub numbers : (space : Space) (n : ℕ) → IsShared space → IsIn p space n → p.renames space n ≡ q.renames space n

-- plans of one module are alike, and give one part
abbrev pub PlanIsTold : Type 0
PlanIsTold = (features : WasmFeatures) (m : Module) (keep : Bool) (pushed : List Item) (t u : Table) (p q : Plan) → NamesAll features m
    → IsPlanOf features m keep pushed t p → IsPlanOf features m keep pushed u q → AreAlike p q × (part p m ≡ part q m)

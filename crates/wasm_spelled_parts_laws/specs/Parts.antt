-- The items of the part that is written of a file are within their limits, and so are the numbers that they name.
use Rattle.std.specs.Prelude.{ℕ, ◌<◌, ◌^◌, Bool, List, [], All, length, Option}
use Rattle.std.specs.List.{AllByRecursion}
use Rattle.walrus_types.specs.Table.{Table}
use Rattle.wasm_features.specs.declared.WasmFeatures.{WasmFeatures}
use Rattle.wasm_grammar.specs.Modules.{Active, Declared, Element, Elements, Export, Expressions, Function, Functions, Mode, Module, Passive, Segment, Tag}
use Rattle.wasm_modules.specs.Modules.{Reads}
use Rattle.wasm_module_rules.specs.Linked.{Each}
use Rattle.wasm_ruled_modules.specs.Rules.{IsCounted}
use Rattle.wasm_part.specs.Handlers.{handler_groups}
use Rattle.wasm_part.specs.Order.{HasDeclared}
use Rattle.wasm_part.specs.Part.{Plan, part}
use Rattle.wasm_part.specs.Seen.{file_seen}
use Rattle.wasm_part.specs.Written.{WritesKept}
use Rattle.wasm_spelled_parts_laws.specs.Items.{AreIn, NumberIn}
use Rattle.wasm_spelled_parts_laws.specs.Whole.{source_of}

-- ---- numbers of items, of 32 bits each

abbrev pub ModeNumbered : Mode → Type 0
ModeNumbered (Active into offset) = into < 2 ^ 32
ModeNumbered Passive = Unit {0}
ModeNumbered Declared = Unit {0}

abbrev pub ItemsNumbered : Elements → Type 0
ItemsNumbered (Functions ns) = AllByRecursion (λ (n : ℕ). n < 2 ^ 32) ns
ItemsNumbered (Expressions ty es) = Unit {0}

pub record AreNumbered (m : Module) : Type 0 where
  pub few_groups : length m.groups < 2 ^ 32
  pub functions : Each (λ (f : Function). f.ty < 2 ^ 32) m.functions
  pub tags : Each (λ (t : Tag). t.ty < 2 ^ 32) m.tags
  pub exports : Each (λ (e : Export). e.item.number < 2 ^ 32) m.exports
  pub start : NumberIn m.start
  pub elements : Each (λ (e : Element). ModeNumbered e.mode × ItemsNumbered e.items) m.elements
  pub segments : Each (λ (x : Segment). ModeNumbered x.mode) m.segments

abbrev pub WrittenItemsAreIn : Type 0
WrittenItemsAreIn = (place : Option ℕ → ℕ) (keep : Bool) (features : WasmFeatures) (bytes : List ℕ) (file : Module) (t : Table) (p : Plan) → All (λ (b : ℕ). b < 256) bytes → Reads features bytes file
    → WritesKept (file_seen place features (handler_groups file) file) keep [] t p
    → (let m = source_of place features file in HasDeclared m p p.declared → IsCounted (part p m) → AreIn features (part p m) × AreNumbered (part p m))

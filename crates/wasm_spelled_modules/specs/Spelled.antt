-- What the bytes give of a module that was read, beyond its rules: its constant expressions have spellings, no import has an initialiser,
-- no data segment is declared, and what is imported or exported is of the spaces that have such items.
use Rattle.std.specs.Prelude.{ℕ, ◌<◌, ◌≡◌, ◌⊎◌, Bool, true, false, List, All, Option, Some, None}
use Rattle.std.specs.List.{AllByRecursion}
use Rattle.wasm_formats.specs.wasm_features.declared.WasmFeatures.{WasmFeatures}
use Rattle.wasm_formats.specs.declared.fault.Space.{Space}
use Rattle.wasm_formats.specs.declared.fault.Space.TheVariants as spaces
use Rattle.wasm_grammar.specs.Exprs.{is_constant}
use Rattle.wasm_grammar.specs.wasm_operators.declared.op_code.OpCode.{OpCode}
use Rattle.wasm_grammar.specs.Modules.{Expr, Origin, Imported, Own, Table, Global, Mode, Passive, Declared, Active, Elements, Functions, Expressions, Element, Segment, Import, Export, Module}
use Rattle.wasm_grammar.specs.States.{State}
use Rattle.wasm_sections.specs.Laws.{ReadsSections}
use Rattle.wasm_section_bytes.specs.Flags.{IsNotDeclared}
use Rattle.wasm_module_rules.specs.Linked.{Each}
use Rattle.wasm_operators.specs.Ranges.{OperatorFits}
use Rattle.wasm_spelled_modules.specs.Constants.{OfConstants}

-- each operator has a spelling
abbrev pub IsSpelled : WasmFeatures → Expr → Type 0
IsSpelled features ops = AllByRecursion (OperatorFits features) ops

abbrev pub InitIsSpelled : WasmFeatures → Option Expr → Type 0
InitIsSpelled features None = Unit {0}
InitIsSpelled features (Some ops) = IsSpelled features ops

abbrev pub OriginIsSpelled : WasmFeatures → Origin Expr → Type 0
OriginIsSpelled features (Imported n) = Unit {0}
OriginIsSpelled features (Own ops) = IsSpelled features ops

abbrev pub ModeIsSpelled : WasmFeatures → Mode → Type 0
ModeIsSpelled features (Active n offset) = IsSpelled features offset
ModeIsSpelled features Passive = Unit {0}
ModeIsSpelled features Declared = Unit {0}

abbrev pub ItemsAreSpelled : WasmFeatures → Elements → Type 0
ItemsAreSpelled features (Functions ns) = Unit {0}
ItemsAreSpelled features (Expressions ty es) = AllByRecursion (IsSpelled features) es

-- functions, tables, memories, globals and tags are imported and exported
abbrev pub is_external : Space → Bool
is_external spaces.Function = true
is_external spaces.Table = true
is_external spaces.Memory = true
is_external spaces.Global = true
is_external spaces.Tag = true
is_external _ = false

pub record AreSpelled (features : WasmFeatures) (m : Module) : Type 0 where
  pub tables : Each (λ (t : Table). InitIsSpelled features t.init × ((t.init ≡ None) ⊎ (t.imported ≡ None))) m.tables
  pub globals : Each (λ (g : Global). OriginIsSpelled features g.origin) m.globals
  pub elements : Each (λ (e : Element). ModeIsSpelled features e.mode × ItemsAreSpelled features e.items) m.elements
  pub segments : Each (λ (x : Segment). ModeIsSpelled features x.mode × IsNotDeclared x.mode) m.segments
  pub imports : Each (λ (i : Import). is_external i.item.space ≡ true) m.imports
  pub exports : Each (λ (e : Export). is_external e.item.space ≡ true) m.exports

-- what is read of bytes is so
abbrev pub ReadSectionsAreSpelled : Type 0
ReadSectionsAreSpelled = (features : WasmFeatures) (bytes : List ℕ) (s : State) → All (λ b. b < 256) bytes → ReadsSections features bytes s → AreSpelled features s.filled

-- what is so of each of these codes is so of each code of constant expressions
abbrev pub ConstantsAreListed : Type 1
ConstantsAreListed = (P : OpCode → Type 0) → OfConstants P → (code : OpCode) → is_constant code ≡ true → P code

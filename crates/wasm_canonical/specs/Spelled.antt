-- The bytes that are due to a module that is dense and meets the rules spell it, places aside, where they are within the limits of the format.
use Rattle.std.specs.Prelude.{◌≡◌, ◌+◌, ◌++◌, Bool, List, length, map, Some}
use Rattle.wasm_features.specs.declared.WasmFeatures.{WasmFeatures}
use Rattle.wasm_grammar.specs.Modules.{Custom, Function, Module}
use Rattle.wasm_body_grammar.specs.Rules.{Around}
use Rattle.wasm_body_grammar.specs.Codes.{param_count}
use Rattle.wasm_sections.specs.Modules.{FileEntry}
use Rattle.wasm_section_bytes.specs.Files.{FileFits, file_bytes}
use Rattle.wasm_module_bytes.specs.Bytes.{without_places}
use Rattle.wasm_module_rules.specs.Linked.{Each}
use Rattle.wasm_module_spellings.specs.Spelled.{SpellsModule}
use Rattle.wasm_ruled_modules.specs.Rules.{IsRuled, around_bodies}
use Rattle.wasm_canonical.specs.Due.{bodies_due, sections_due}
use Rattle.wasm_canonical.specs.Dense.{IsDense, brought}
use Rattle.wasm_canonical.specs.Bodies.{OriginFits}
use Rattle.wasm_canonical.specs.Formed.{AreNotLong}

-- the sections of a module with its bodies
abbrev pub file_due : WasmFeatures → Bool → List Custom → List Custom → Module → FileEntry
file_due features counted first last m = (tt, sections_due (bodies_due (around_bodies features counted m) m) counted first last m)

-- within the limits of the format
pub record DueFits (features : WasmFeatures) (counted : Bool) (first last : List Custom) (m : Module) : Type 0 where
  pub file : FileFits features (file_due features counted first last m)
  pub bodies : Each (λ (f : Function). OriginFits (around_bodies features counted m) (param_count (around_bodies features counted m).filled f.ty) f.origin) m.functions
  pub short : AreNotLong (bodies_due (around_bodies features counted m) m)

-- a dense module has a body for each function that isn't imported
abbrev pub OwnFunctionsHaveBodies : Type 0
OwnFunctionsHaveBodies = (a : Around) (m : Module) → IsDense m → length m.functions ≡ (brought m).functions + length (bodies_due a m)

abbrev pub DueModulesAreSpelled : Type 0
DueModulesAreSpelled = (features : WasmFeatures) (counted : Bool) (first last : List Custom) (m : Module) → IsDense m → IsRuled features counted m → m.customs ≡ map (λ (c : Custom). Some c) (first ++ last)
    → DueFits features counted first last m → (n : Module) × SpellsModule features (file_bytes features (file_due features counted first last m)) counted n × (without_places n ≡ without_places m)

-- A module whose items have spellings is within the limits of the format, where its bodies and its bytes are not too long.
use Rattle.std.specs.Prelude.{Bool, List}
use Rattle.wasm_features.specs.declared.WasmFeatures.{WasmFeatures}
use Rattle.wasm_grammar.specs.Modules.{Custom, Function, Module}
use Rattle.wasm_section_bytes.specs.Files.{file_bytes}
use Rattle.wasm_module_rules.specs.Linked.{Each}
use Rattle.wasm_module_rules.specs.wasm_modules.Modules.{IsShort}
use Rattle.wasm_ruled_modules.specs.Rules.{IsRuled, around_bodies}
use Rattle.wasm_canonical.specs.Due.{bodies_due}
use Rattle.wasm_canonical.specs.Entries.{DueEntriesFit}
use Rattle.wasm_canonical.specs.Fits.{OriginSpelled}
use Rattle.wasm_canonical.specs.Formed.{AreNotLong}
use Rattle.wasm_canonical.specs.Spelled.{DueFits, file_due}

abbrev pub SpelledItemsFit : Type 0
SpelledItemsFit = (features : WasmFeatures) (counted : Bool) (first last : List Custom) (m : Module) → IsRuled features counted m → DueEntriesFit features first last m
    → Each (λ (f : Function). OriginSpelled (around_bodies features counted m) f.origin) m.functions → AreNotLong (bodies_due (around_bodies features counted m) m)
    → IsShort (file_bytes features (file_due features counted first last m)) → DueFits features counted first last m

-- The bytes that are due to a module that is dense and meets the rules read as it, each operator at the place where it begins.
use Rattle.std.specs.Prelude.{◌≡◌, ◌++◌, Bool, List, map, Some}
use Rattle.wasm_features.specs.declared.WasmFeatures.{WasmFeatures}
use Rattle.wasm_grammar.specs.Modules.{Custom, Module}
use Rattle.wasm_modules.specs.Modules.{IsShort, Reads}
use Rattle.wasm_section_bytes.specs.Files.{file_bytes}
use Rattle.wasm_module_bytes.specs.Bytes.{without_places}
use Rattle.wasm_ruled_modules.specs.Rules.{IsRuled, around_bodies}
use Rattle.wasm_canonical.specs.Canonical.{CustomsInOrder, canonical_bytes}
use Rattle.wasm_canonical.specs.CanonicalReads.{ItemsAreSpelled}
use Rattle.wasm_canonical.specs.Dense.{IsDense}
use Rattle.wasm_canonical.specs.Due.{counts_data}
use Rattle.wasm_canonical.specs.Spelled.{DueFits, file_due}
use Rattle.wasm_places_laws.specs.Begun.{module_begun}
use Rattle.wasm_places_laws.specs.Places.{around_written}

abbrev pub DueAreReadAtPlaces : Type 0
DueAreReadAtPlaces = (features : WasmFeatures) (counted : Bool) (first last : List Custom) (m : Module) → IsDense m → IsRuled features counted m → m.customs ≡ map (λ (c : Custom). Some c) (first ++ last)
    → DueFits features counted first last m → IsShort (file_bytes features (file_due features counted first last m))
    → Reads features (file_bytes features (file_due features counted first last m)) (module_begun (around_bodies features counted m) m)

-- as it is without the places that it had
abbrev pub begun_in : WasmFeatures → Module → Module
begun_in features n = module_begun (around_written features n) (without_places n)

abbrev pub CanonicalAreReadAtPlaces : Type 0
CanonicalAreReadAtPlaces = (features : WasmFeatures) (n : Module) → IsDense n → IsRuled features (counts_data n) n → CustomsInOrder n → ItemsAreSpelled features n → IsShort (canonical_bytes features n)
    → Reads features (canonical_bytes features n) (begun_in features n)

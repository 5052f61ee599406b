-- The canonical bytes of a module read as it, places aside, and are canonical.
use Rattle.std.specs.Prelude.{◌≡◌}
use Rattle.wasm_features.specs.declared.WasmFeatures.{WasmFeatures}
use Rattle.wasm_modules.specs.Modules.{IsShort, Reads}
use Rattle.wasm_grammar.specs.Modules.{Function, Module}
use Rattle.wasm_module_bytes.specs.Bytes.{without_places}
use Rattle.wasm_module_rules.specs.Linked.{Each}
use Rattle.wasm_ruled_modules.specs.Rules.{IsRuled, around_bodies}
use Rattle.wasm_canonical.specs.Canonical.{Canon, CustomsInOrder, canonical_bytes, first_customs, last_customs}
use Rattle.wasm_canonical.specs.Dense.{IsDense}
use Rattle.wasm_canonical.specs.Due.{bodies_due, counts_data}
use Rattle.wasm_canonical.specs.Entries.{DueEntriesFit}
use Rattle.wasm_canonical.specs.Fits.{OriginSpelled}
use Rattle.wasm_canonical.specs.Formed.{AreNotLong}
use Rattle.wasm_canonical.specs.Spelled.{DueFits}

-- such bytes read as the module, places aside, and are canonical
abbrev pub CanonicalAreCanonical : Type 0
CanonicalAreCanonical = (features : WasmFeatures) (n : Module) → IsDense n → IsRuled features (counts_data n) n → CustomsInOrder n
    → DueFits features (counts_data (without_places n)) (first_customs n) (last_customs n) (without_places n) → IsShort (canonical_bytes features n)
    → Canon features (canonical_bytes features n) × ((k : Module) × Reads features (canonical_bytes features n) k × (without_places k ≡ without_places n))

-- the module without its places has spellings for its items
pub record ItemsAreSpelled (features : WasmFeatures) (n : Module) : Type 0 where
  pub entries : DueEntriesFit features (first_customs n) (last_customs n) (without_places n)
  pub bodies : Each (λ (f : Function). OriginSpelled (around_bodies features (counts_data (without_places n)) (without_places n)) f.origin) (without_places n).functions
  pub not_long : AreNotLong (bodies_due (around_bodies features (counts_data (without_places n)) (without_places n)) (without_places n))

abbrev pub SpelledAreCanonical : Type 0
SpelledAreCanonical = (features : WasmFeatures) (n : Module) → IsDense n → IsRuled features (counts_data n) n → CustomsInOrder n → ItemsAreSpelled features n → IsShort (canonical_bytes features n)
    → Canon features (canonical_bytes features n) × ((k : Module) × Reads features (canonical_bytes features n) k × (without_places k ≡ without_places n))

-- The pairs of a part's bodies are the pairs of places of a file rewritten: true, rising, whole.
use Rattle.std.specs.Prelude.{ℕ, ◌≡◌, Some, slice_get}
use Rattle.wasm_features.specs.declared.WasmFeatures.{WasmFeatures}
use Rattle.wasm_operators.specs.Items.{Functions}
use Rattle.wasm_grammar.specs.Modules.{Module}
use Rattle.wasm_body_grammar.specs.Rules.{Around}
use Rattle.wasm_modules.specs.Modules.{IsShort, Reads}
use Rattle.wasm_module_bytes.specs.Bytes.{without_places}
use Rattle.wasm_ruled_modules.specs.Rules.{IsRuled, around_bodies}
use Rattle.wasm_canonical.specs.Canonical.{CustomsInOrder, canonical_bytes}
use Rattle.wasm_canonical.specs.CanonicalReads.{ItemsAreSpelled}
use Rattle.wasm_canonical.specs.Dense.{IsDense}
use Rattle.wasm_canonical.specs.Due.{counts_data}
use Rattle.wasm_part.specs.Part.{Plan, part}
use Rattle.wasm_rewritten.specs.Places.{ArePlaces}
use Rattle.wasm_places_laws.specs.Begun.{module_begun}
use Rattle.wasm_places_laws.specs.Pairs.{module_pairs}

-- each function's new number is its place in the list
abbrev pub FunctionsAtPlaces : Plan → Type 0
FunctionsAtPlaces p = (i n : ℕ) → slice_get (p.listed Functions) i ≡ Some n → p.renames Functions n ≡ i

-- where n has each operator of the part at the place where it begins
abbrev pub PartPairsArePlaces : Type 0
PartPairsArePlaces = (none : ℕ) (a : Around) (normal n : Module) (p : Plan) → FunctionsAtPlaces p → n.functions ≡ (module_begun a (part p normal)).functions
    → ArePlaces none normal n p (module_pairs none a (part p normal))

-- k is the part with its custom sections, places aside, and its canonical bytes read as it, places aside
pub record IsWrittenPart (features : WasmFeatures) (normal k : Module) (p : Plan) : Type 0 where
  pub whole : without_places k ≡ record (without_places (part p normal)) { customs = k.customs }
  pub dense : IsDense k
  pub ruled : IsRuled features (counts_data k) k
  pub customs : CustomsInOrder k
  pub spelled : ItemsAreSpelled features k
  pub short : IsShort (canonical_bytes features k)

-- what is around the bodies as they are written
abbrev pub around_written : WasmFeatures → Module → Around
around_written features k = around_bodies features (counts_data (without_places k)) (without_places k)

abbrev pub WrittenPairsArePlaces : Type 0
WrittenPairsArePlaces = (none : ℕ) (features : WasmFeatures) (normal k : Module) (p : Plan) → FunctionsAtPlaces p → IsWrittenPart features normal k p
    → (n : Module) → Reads features (canonical_bytes features k) n → ArePlaces none normal n p (module_pairs none (around_written features k) (part p normal))

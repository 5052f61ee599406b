-- The pairs of places that the writing of a module's code leaves are the pairs of places of the file that was rewritten: true, rising, whole.
use Rattle.std.specs.Prelude.{ℕ, ◌≡◌, ◌++◌, List}
use Rattle.wasm_features.specs.declared.WasmFeatures.{WasmFeatures}
use Rattle.wasm_grammar.specs.Modules as grammar
use Rattle.wasm_modules.specs.Modules.{Reads}
use Rattle.wasm_canonical.specs.Canonical.{canonical_bytes}
use Rattle.wasm_part.specs.Part.{Plan, part}
use Rattle.wasm_rewritten.specs.Places.{ArePlaces}
use Rattle.wasm_places_laws.specs.Places.{FunctionsAtPlaces, IsWrittenPart}
use Rattle.walrus_index_maps.specs.Maps.{Indices}
use Rattle.walrus_module.specs.Parts.{Module}
use Rattle.walrus_emit_numbers.specs.declared.facts.BodyFacts.{BodyFacts}
use Rattle.walrus_emit_parts.specs.Due.{Due, written}
use Rattle.walrus_emit_code.specs.Code.{code}
use Rattle.walrus_emit_code.specs.Places.{locations}
use Rattle.walrus_code_laws.specs.Parts.{ServesCode, numbered}
use Rattle.walrus_places_laws.specs.Bodies.{no_place}

-- code stands among what was written; the functions of the module's part are those of the part of this normal form by another plan; k is that part as it is
-- written, with its custom sections, and n what its canonical bytes read as
abbrev pub LocationsArePlaces : Type 0
LocationsArePlaces = (features : WasmFeatures) (i : Indices) (p : Plan) (m : Module) (facts : List BodyFacts) → ServesCode i p m facts
    → (bytes : List ℕ) (front behind last : Due) → written bytes ≡ (front ++ (code m.locals m.funcs i facts ++ behind)) ++ last
    → (normal k : grammar.Module) (q : Plan) → FunctionsAtPlaces q → (part p (numbered m)).functions ≡ (part q normal).functions → IsWrittenPart features normal k q
    → (n : grammar.Module) → Reads features (canonical_bytes features k) n → ArePlaces no_place normal n q (locations m.locals m.funcs i facts)

-- The part that is written of a file with its custom sections, in canonical bytes: it is read as it, places aside, and is the file rewritten.
use Rattle.std.specs.Prelude.{ℕ, ◌<◌, ◌≡◌, Bool, List, [], All, Option, Some, None}
use Rattle.walrus_types.specs.Table.{Table}
use Rattle.wasm_features.specs.declared.WasmFeatures.{WasmFeatures}
use Rattle.wasm_grammar.specs.Modules.{Module}
use Rattle.wasm_modules.specs.Modules.{IsShort, Reads}
use Rattle.wasm_module_bytes.specs.Bytes.{without_places}
use Rattle.wasm_ruled_modules.specs.Rules.{IsCounted}
use Rattle.wasm_canonical.specs.Canonical.{canonical_bytes}
use Rattle.wasm_part.specs.Handlers.{handler_groups}
use Rattle.wasm_part.specs.Order.{HasDeclared, InOrder}
use Rattle.wasm_part.specs.Part.{Plan, part}
use Rattle.wasm_part.specs.Seen.{file_seen}
use Rattle.wasm_part.specs.Written.{WritesKept}
use Rattle.wasm_places_laws.specs.Pairs.{module_pairs}
use Rattle.wasm_places_laws.specs.Places.{IsWrittenPart, around_written}
use Rattle.wasm_rewritten.specs.Rewritten.{Rewritten}
use Rattle.wasm_spelled_parts_laws.specs.Due.{BodiesAreShort}
use Rattle.wasm_spelled_parts_laws.specs.Whole.{source_of, written_part}

-- of a file that is read, of bytes, the plan has what is kept, in order; no list of the part is longer than it may be, nor is a body or the whole
pub record IsDue (place : Option ℕ → ℕ) (names producers keep : Bool) (features : WasmFeatures) (input : List ℕ) (file : Module) (t : Table) (p : Plan) : Type 0 where
  pub small : All (λ (b : ℕ). b < 256) input
  pub reads : Reads features input file
  pub writes : WritesKept (file_seen place features (handler_groups file) file) keep [] t p
  pub ordered : InOrder (source_of place features file) p
  pub declared : HasDeclared (source_of place features file) p p.declared
  pub counted : IsCounted (part p (source_of place features file))
  pub bodies : BodiesAreShort features (written_part place names producers features file p)
  pub short : IsShort (canonical_bytes features (written_part place names producers features file p))

abbrev pub DuePartsAreWritten : Type 0
DuePartsAreWritten = (place : Option ℕ → ℕ) (names producers keep : Bool) (features : WasmFeatures) (input : List ℕ) (file : Module) (t : Table) (p : Plan) → IsDue place names producers keep features input file t p
    → IsWrittenPart features (source_of place features file) (written_part place names producers features file p) p

-- its canonical bytes read as it, places aside
abbrev pub DuePartsAreRead : Type 0
DuePartsAreRead = (place : Option ℕ → ℕ) (names producers keep : Bool) (features : WasmFeatures) (input : List ℕ) (file : Module) (t : Table) (p : Plan) → IsDue place names producers keep features input file t p
    → (let n = written_part place names producers features file p in (k : Module) × Reads features (canonical_bytes features n) k × (without_places k ≡ without_places n))

-- and are the file rewritten, with the pairs of places of its bodies, or without
abbrev pub DuePartsAreRewritten : Type 0
DuePartsAreRewritten = (place : Option ℕ → ℕ) (names producers keep : Bool) (features : WasmFeatures) (input : List ℕ) (file : Module) (t : Table) (p : Plan) → IsDue place names producers keep features input file t p
    → (let n = written_part place names producers features file p in let pairs = module_pairs (place None) (around_written features n) (part p (source_of place features file)) in
    Rewritten place names producers keep features input (canonical_bytes features n) None × Rewritten place names producers keep features input (canonical_bytes features n) (Some pairs))

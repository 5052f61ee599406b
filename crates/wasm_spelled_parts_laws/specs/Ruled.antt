-- The part that is written of a file meets the rules, with a data count section where it asks for one, where none of its lists is longer than it may be.
use Rattle.std.specs.Prelude.{ℕ, Bool, List, [], Option}
use Rattle.walrus_types.specs.Table.{Table}
use Rattle.wasm_features.specs.declared.WasmFeatures.{WasmFeatures}
use Rattle.wasm_grammar.specs.Modules.{Module}
use Rattle.wasm_modules.specs.Modules.{Reads}
use Rattle.wasm_ruled_modules.specs.Rules.{IsCounted, IsRuled}
use Rattle.wasm_canonical.specs.Due.{counts_data}
use Rattle.wasm_part.specs.Handlers.{handler_groups}
use Rattle.wasm_part.specs.Part.{Plan, part}
use Rattle.wasm_part.specs.Seen.{file_seen}
use Rattle.wasm_part.specs.Written.{WritesKept}
use Rattle.wasm_spelled_parts_laws.specs.Whole.{source_of}

abbrev pub CountedPartsAreRuled : Type 0
CountedPartsAreRuled = (place : Option ℕ → ℕ) (keep : Bool) (features : WasmFeatures) (bytes : List ℕ) (file : Module) (t : Table) (p : Plan) → Reads features bytes file
    → WritesKept (file_seen place features (handler_groups file) file) keep [] t p → (let n = part p (source_of place features file) in IsCounted n → IsRuled features (counts_data n) n)

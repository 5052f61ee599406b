-- The part that is written of a file stands as a module does in a file.
use Rattle.std.specs.Prelude.{ℕ, Bool, List, [], Option}
use Rattle.std.specs.List.{AllByRecursion}
use Rattle.walrus_types.specs.Table.{Table}
use Rattle.wasm_features.specs.declared.WasmFeatures.{WasmFeatures}
use Rattle.wasm_grammar.specs.Modules.{Module}
use Rattle.wasm_modules.specs.Modules.{Reads}
use Rattle.wasm_module_bytes.specs.Due.{IsWritten}
use Rattle.wasm_canonical.specs.Dense.{IsDense}
use Rattle.wasm_part.specs.Handlers.{handler_groups}
use Rattle.wasm_part.specs.Order.{InOrder}
use Rattle.wasm_part.specs.Part.{Plan, part}
use Rattle.wasm_part.specs.Seen.{file_seen}
use Rattle.wasm_part.specs.Written.{WritesKept}
use Rattle.wasm_spelled_parts_laws.specs.Whole.{source_of}

-- no type of a body's own block is among the types of the part, and a group that isn't marked is one type
abbrev pub WrittenGroupsAreWritten : Type 0
WrittenGroupsAreWritten = (place : Option ℕ → ℕ) (keep : Bool) (features : WasmFeatures) (file : Module) (t : Table) (p : Plan) → WritesKept (file_seen place features (handler_groups file) file) keep [] t p
    → AllByRecursion IsWritten p.groups

-- so the part is dense
abbrev pub WrittenPartsAreDense : Type 0
WrittenPartsAreDense = (place : Option ℕ → ℕ) (keep : Bool) (features : WasmFeatures) (bytes : List ℕ) (file : Module) (t : Table) (p : Plan) → Reads features bytes file
    → WritesKept (file_seen place features (handler_groups file) file) keep [] t p → InOrder (source_of place features file) p → IsDense (part p (source_of place features file))

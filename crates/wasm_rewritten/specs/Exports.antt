-- Exports keep their names, their kinds and their order; imports that are kept theirs.
use Rattle.std.specs.Prelude.{ℕ, ◌≡◌, Bool, List, Option, map}
use Rattle.std.specs.Option.{option_map}
use Rattle.walrus_types.specs.Table.{Table}
use Rattle.wasm_features.specs.declared.WasmFeatures.{WasmFeatures}
use Rattle.wasm_grammar.specs.Modules.{Module}
use Rattle.wasm_modules.specs.Modules.{Reads}
use Rattle.wasm_part.specs.Part.{Plan, picked, renumbered_export, renumbered_import}
use Rattle.wasm_part.specs.Closed.{Rise}
use Rattle.wasm_part.specs.Stands.{Stands}

-- all exports of the file, each with the new number of its item; of its imports some, in their order, with the new numbers of theirs
abbrev pub ExportsStay : Type 0
ExportsStay = (place : Option ℕ → ℕ) (keep : Bool) (features : WasmFeatures) (bytes : List ℕ) (file n : Module) (t : Table) (p : Plan) → Reads features bytes file → Stands place keep features file n t p
    → (n.exports ≡ map (option_map (renumbered_export p.renames)) file.exports) × (n.imports ≡ picked (renumbered_import p.renames) p.imports file.imports) × Rise p.imports

-- What is due for the start function is the start section of the renamed one.
use Rattle.std.specs.Prelude.{ℕ, Option}
use Rattle.std.specs.Option.{option_map}
use Rattle.wasm_features.specs.declared.WasmFeatures.{WasmFeatures}
use Rattle.wasm_operators.specs.Items.{Functions}
use Rattle.wasm_operators.specs.Names.{Renaming}
use Rattle.wasm_canonical.specs.Due.{start_if}
use Rattle.walrus_pairing.specs.Looks.{Look}
use Rattle.walrus_emit_due.specs.Starts.{start}
use Rattle.walrus_due_laws.specs.Spelled.{Follows, SpelledAs, spelled}

abbrev pub StartIsSpelled : Type 0
StartIsSpelled = (features : WasmFeatures) (r : Renaming) (look : Look) (id : Option ℕ) → Follows r look
    → SpelledAs (start look id) (spelled features (start_if (option_map (r Functions) id)))

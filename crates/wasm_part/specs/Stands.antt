-- The part of a file's module that is written, renamed.
use Rattle.std.specs.Prelude.{ℕ, ◌≡◌, Bool, true, List, [], Option}
use Rattle.walrus_forms.specs.Records.{TypeGroup}
use Rattle.walrus_types.specs.Table.{Table}
use Rattle.wasm_features.specs.declared.WasmFeatures.{WasmFeatures}
use Rattle.wasm_grammar.specs.Modules.{Module}
use Rattle.wasm_merged_modules.specs.Merged.{merged_module}
use Rattle.wasm_module_bytes.specs.Bytes.{without_places}
use Rattle.wasm_part.specs.Part.{Plan, part}
use Rattle.wasm_part.specs.Written.{WritesKept}
use Rattle.wasm_part.specs.Order.{HasDeclared, InOrder}
use Rattle.wasm_part.specs.Seen.{file_seen}
use Rattle.wasm_part.specs.Handlers.{handler_groups}

-- n is the part of the file's module that is kept, with all active element segments or without, renamed as the plan says, places aside: its bodies in normal
-- form, its types merged and as this table writes them, with these groups of handlers' types behind them
pub record StandsWith (place : Option ℕ → ℕ) (keep : Bool) (features : WasmFeatures) (more : List TypeGroup) (file n : Module) (t : Table) (p : Plan) : Type 0 where
  pub writes : WritesKept (file_seen place features more file) keep [] t p
  pub ordered : InOrder (merged_module place features true more file) p
  pub declared : HasDeclared (merged_module place features true more file) p p.declared
  pub whole : without_places n ≡ record (without_places (part p (merged_module place features true more file))) { customs = n.customs }

-- with the types that the file's handlers lack
abbrev pub Stands : (Option ℕ → ℕ) → (keep : Bool) → WasmFeatures → Module → Module → Table → Plan → Type 0
Stands place keep features file n t p = StandsWith place keep features (handler_groups file) file n t p

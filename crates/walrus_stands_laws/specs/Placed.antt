-- A plan that has just what is kept of a file's module, in order: each item's new number is its place, and globals keep their order (Core Specification, indices).
use Rattle.std.specs.Prelude.{ℕ, ◌≡◌, Bool, true, List, Option, Some, slice_get}
use Rattle.walrus_forms.specs.Records.{TypeGroup}
use Rattle.wasm_features.specs.declared.WasmFeatures.{WasmFeatures}
use Rattle.wasm_operators.specs.Items.{Space, Globals}
use Rattle.wasm_grammar.specs.Modules.{Item, Module}
use Rattle.wasm_modules.specs.Modules.{Reads}
use Rattle.wasm_merged_modules.specs.Merged.{merged_module}
use Rattle.wasm_part.specs.Closed.{IsListed, Rise}
use Rattle.wasm_part.specs.Kept.{HasKept}
use Rattle.wasm_part.specs.Order.{InOrder}
use Rattle.wasm_part.specs.Part.{Plan}
use Rattle.wasm_part.specs.Seen.{file_seen}

pub record IsPlaced (p : Plan) : Type 0 where
  pub only : (space : Space) (i n : ℕ) → IsListed space → slice_get (p.listed space) i ≡ Some n → p.renames space n ≡ i
  pub globals : Rise (p.listed Globals)

abbrev pub KeptPlansArePlaced : Type 0
KeptPlansArePlaced = (place : Option ℕ → ℕ) (features : WasmFeatures) (bytes : List ℕ) (more : List TypeGroup) (file : Module) → Reads features bytes file → (keep : Bool) (pushed : List Item) (p : Plan)
    → HasKept (file_seen place features more file) keep pushed p → InOrder (merged_module place features true more file) p → IsPlaced p

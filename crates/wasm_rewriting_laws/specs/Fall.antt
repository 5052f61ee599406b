-- The functions that have bodies are written by falling size.
use Rattle.std.specs.Prelude.{ℕ, ◌≡◌, ◌<◌, ◌≤◌, Bool, List, Option, Some, None, slice_index_or}
use Rattle.wasm_features.specs.declared.WasmFeatures.{WasmFeatures}
use Rattle.wasm_grammar.specs.Modules.{Body, Function, Module, Own}
use Rattle.wasm_part.specs.Order.{size_of}
use Rattle.wasm_rewritten.specs.Rewritten.{Rewritten}

-- the function of this number has a body of its own
pub record HasBody (m : Module) (f : ℕ) : Type 0 where
  pub function : Function
  pub there : slice_index_or m.functions f None ≡ Some function
  pub body : Body
  pub own : function.origin ≡ Own body

abbrev pub WrittenFunctionsFall : Type 0
WrittenFunctionsFall = (place : Option ℕ → ℕ) (names producers keep : Bool) (features : WasmFeatures) (input bytes : List ℕ) (places : Option (List (ℕ × ℕ)))
    (w : Rewritten place names producers keep features input bytes places) (f g : ℕ) → HasBody w.n f → HasBody w.n g → f < g → size_of w.n g ≤ size_of w.n f

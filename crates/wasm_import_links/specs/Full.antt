-- Spaces without empty slots.
use Rattle.std.specs.Prelude.{ℕ, List, [], ◌∷◌, Option, Some, None}
use Rattle.wasm_features.specs.declared.WasmFeatures.{WasmFeatures}
use Rattle.wasm_grammar.specs.Modules.{Module}
use Rattle.wasm_modules.specs.Modules.{Reads}

abbrev pub IsFull : {A : Type 0} → List (Option A) → Type 0
IsFull [] = Unit {0}
IsFull (None ∷ xs) = ⊥
IsFull (Some x ∷ xs) = IsFull xs

pub record AreFull (m : Module) : Type 0 where
  pub imports : IsFull m.imports
  pub functions : IsFull m.functions
  pub tables : IsFull m.tables
  pub memories : IsFull m.memories
  pub tags : IsFull m.tags
  pub globals : IsFull m.globals
  pub exports : IsFull m.exports
  pub elements : IsFull m.elements
  pub segments : IsFull m.segments

abbrev pub ReadModulesAreFull : Type 0
ReadModulesAreFull = (features : WasmFeatures) (bytes : List ℕ) (m : Module) → Reads features bytes m → AreFull m

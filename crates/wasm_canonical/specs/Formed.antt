-- The sections that are due to a module that meets the rules are formed, and stay so with the places of their bytes.
use Rattle.std.specs.Prelude.{ℕ, ◌≡◌, ◌≤◌, ◌+◌, Bool, List, [], ◌∷◌, length}
use Rattle.wasm_features.specs.declared.WasmFeatures.{WasmFeatures}
use Rattle.wasm_grammar.specs.Modules.{Custom, Module}
use Rattle.wasm_grammar.specs.States.{nothing_yet}
use Rattle.wasm_module_spellings.specs.Spelled.{AreFormed}
use Rattle.wasm_ruled_modules.specs.Rules.{IsRuled}
use Rattle.wasm_section_bytes.specs.Files.{file_placed}
use Rattle.wasm_canonical.specs.Due.{sections_due}
use Rattle.wasm_canonical.specs.Dense.{IsDense, brought}

-- no body is longer than it may be
abbrev pub AreNotLong : List (List ℕ) → Type 0
AreNotLong [] = Unit {0}
AreNotLong (b ∷ bodies) = (length b ≤ 7654321) × AreNotLong bodies

-- as many bodies as the module has functions of its own
abbrev pub DueSectionsAreFormed : Type 0
DueSectionsAreFormed = (features : WasmFeatures) (bodies : List (List ℕ)) (counted : Bool) (first last : List Custom) (m : Module) → IsDense m → IsRuled features counted m → AreNotLong bodies
    → length m.functions ≡ (brought m).functions + length bodies → AreFormed features nothing_yet (file_placed features (tt, sections_due bodies counted first last m)).1

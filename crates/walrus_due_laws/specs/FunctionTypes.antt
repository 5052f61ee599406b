-- What is due for the types of functions is the function section of the renamed ones.
use Rattle.std.specs.Prelude.{ℕ, List, Option}
use Rattle.std.specs.List.{AllByRecursion, filter_map}
use Rattle.wasm_features.specs.declared.WasmFeatures.{WasmFeatures}
use Rattle.wasm_operators.specs.Names.{Renaming}
use Rattle.wasm_grammar.specs.Modules.{Function}
use Rattle.wasm_body_grammar.specs.Codes.{own_type}
use Rattle.wasm_sections.specs.Sections.{FunctionSection}
use Rattle.wasm_canonical.specs.Dense.{IsOwnFunction}
use Rattle.wasm_canonical.specs.Due.{section_if}
use Rattle.wasm_part.specs.Part.{picked, renumbered_function}
use Rattle.walrus_pairing.specs.Looks.{Look}
use Rattle.walrus_emit_due.specs.FunctionTypes.{function_types}
use Rattle.walrus_emit_due.specs.Slots.{live_at}
use Rattle.walrus_due_laws.specs.Spelled.{Follows, SpelledAs, spelled}

-- each of these lives and has a body
abbrev pub HaveBodies : List (Option Function) → List ℕ → Type 0
HaveBodies slots ids = AllByRecursion (λ (id : ℕ). IsOwnFunction (live_at slots id)) ids

abbrev pub FunctionTypesAreSpelled : Type 0
FunctionTypesAreSpelled = (features : WasmFeatures) (r : Renaming) (brings : ℕ → ℕ) (look : Look) (slots : List (Option Function)) (ids : List ℕ) → Follows r look → HaveBodies slots ids
    → SpelledAs (function_types look slots ids) (spelled features (section_if FunctionSection (filter_map own_type (picked (renumbered_function r brings) ids slots))))

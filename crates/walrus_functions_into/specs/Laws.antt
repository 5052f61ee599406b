-- Laws of files that were read: their functions may be added, and then each that wants a body gets one, as the grammar has it.
use Rattle.std.specs.Prelude.{ℕ, ◌≡◌, List, [], map, Option, Some, None}
use Rattle.std.specs.Global.{Vec}
use Rattle.wasm_features.specs.declared.WasmFeatures.{WasmFeatures}
use Rattle.walrus_collections.specs.walrus_tree.walrus_walks.walrus_types.walrus_forms.Renaming.{at}
use Rattle.walrus_types_into.specs.wasm_module_rules.wasm_modules.wasm_body_grammar.Codes.{Code, param_count}
use Rattle.walrus_types_into.specs.walrus_known_sections.wasm_sections.Laws.{ReadsSections}
use Rattle.walrus_types_into.specs.wasm_module_rules.wasm_modules.Modules.{codes}
use Rattle.walrus_types_into.specs.wasm_module_rules.Linked.{Each}
use Rattle.walrus_collections.specs.walrus_tree.walrus_walks.walrus_types.Table.{Table, IsFunctionType}
use Rattle.walrus_types_into.specs.Into.{TypesStand}
use Rattle.walrus_collections.specs.walrus_module_items.declared.function.Function.{Function}
use Rattle.walrus_collections.specs.walrus_module_items.Functions.{type_of}
use Rattle.walrus_types_into.specs.walrus_known_sections.declared.items.Chunk.{Chunk}
use Rattle.walrus_types_into.specs.walrus_known_sections.declared.items.Function.{Function as ReadFunction}
use Rattle.walrus_types_into.specs.walrus_known_sections.declared.sections.Sections.{Sections}
use Rattle.walrus_types_into.specs.walrus_known_sections.Items.{chunk_of}
use Rattle.walrus_types_into.specs.walrus_known_sections.State.{state_of}
use Rattle.walrus_functions_into.specs.declared.bodies.FunctionBody.{FunctionBody}
use Rattle.walrus_functions_into.specs.Functions.{AreTyped, functions_from}
use Rattle.walrus_functions_into.specs.Bodies.{bodiless_from, paired}

-- functions that were read name types of the map, and what they become has live function types
abbrev pub ReadFunctionsStand : Type 0
ReadFunctionsStand = (features : WasmFeatures) (bytes : List ℕ) (s : Sections) (types : List ℕ) (t : Table) (id : ℕ) → ReadsSections features bytes (state_of s) → TypesStand s.types types t
    → AreTyped types s.functions.items × Each (λ (f : Function). IsFunctionType t (type_of f.kind)) (functions_from types id s.functions.items)

-- the bodies that were read, none where there is no code section
abbrev pub read_bodies : Option (Vec Chunk) → List Chunk
read_bodies None = []
read_bodies (Some chunks) = chunks.items

-- a body, of a function of the file
abbrev pub code_of : Sections → FunctionBody → Code
code_of s b = record { params = param_count (state_of s).filled (at (map (λ (f : ReadFunction). f.ty) s.functions.items) b.number); chunk = chunk_of b.chunk }

-- each of these functions gets a body, each body is given, and the grammar gives it the same function
pub record ArePaired (s : Sections) (ids : List ℕ) : Type 0 where
  pub functions_are : map (λ (b : FunctionBody). b.number) (paired ids (read_bodies s.bodies)) ≡ ids
  pub chunks_are : map (λ (b : FunctionBody). b.chunk) (paired ids (read_bodies s.bodies)) ≡ read_bodies s.bodies
  pub codes_are : map (code_of s) (paired ids (read_bodies s.bodies)) ≡ codes (state_of s)

-- so it is in a collection that began empty
abbrev pub ReadBodiesArePaired : Type 0
ReadBodiesArePaired = (features : WasmFeatures) (bytes : List ℕ) (s : Sections) (types : List ℕ) → ReadsSections features bytes (state_of s)
    → ArePaired s (bodiless_from 0 (functions_from types 0 s.functions.items))

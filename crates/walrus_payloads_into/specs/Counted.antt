-- A module that maps number, whatever its items are.
use Rattle.std.specs.Prelude.{ℕ, suc, ◌≡◌, true, false, List, [], ◌∷◌, length, map, Option, Some, None, slice_get, refl}
use Rattle.std.specs.List.{flat_map}
use Rattle.std.specs.Option.{option_map}
use Rattle.std.proofs.Common.{ap, ◌∙◌, arith}
use Rattle.std.proofs.lemmas.List.{length-map}
use Rattle.std.proofs.lemmas.Option.{slice_get-map}
use Rattle.walrus_index_maps.specs.Maps.{Ids}
use Rattle.wasm_body_grammar.specs.wasm_grammar.walrus_forms.declared.value.ValType.TheVariants.{I32}
use Rattle.wasm_body_grammar.specs.wasm_grammar.walrus_forms.Forms.{StructForm}
use Rattle.wasm_body_grammar.specs.wasm_grammar.walrus_forms.Kinds.{Kind}
use Rattle.wasm_body_grammar.specs.wasm_grammar.walrus_forms.Records.{TypeGroup}
use Rattle.wasm_formats.specs.declared.fault.Space.{Space}
use Rattle.wasm_formats.specs.declared.fault.Space.TheVariants as spaces
use Rattle.wasm_body_grammar.specs.wasm_grammar.Modules.{Own, Function, Module, empty}
use Rattle.wasm_body_grammar.specs.wasm_grammar.States.{count_of}
use Rattle.wasm_body_grammar.specs.Codes.{kind_params}
use Rattle.walrus_payload_readers.specs.wasm_name_payloads.Names.{local_count, function_locals, first_slot}
use Rattle.walrus_payloads_into.specs.Numbered.{ids_in, locals_of, locals_in, IsNumbered}

-- a type without parameters
abbrev pub some_kind : Kind
some_kind = record { form = StructForm []; final = true; supertype = None; entry = false }

abbrev pub some_group : TypeGroup
some_group = record { marked = false; kinds = some_kind ∷ [] }

-- a function with so many locals
abbrev pub some_function : List ℕ → Function
some_function locals = record { ty = 0; origin = Own (record { locals = map (λ _. I32) locals; operators = [] }) }

-- as many items of each kind
abbrev pub file_of : Ids → Module
file_of ids = record empty {
  groups = map (λ _. some_group) ids.types;
  functions = map (λ id. Some (some_function (ids.locals id))) ids.functions;
  tables = map (λ _. None) ids.tables;
  memories = map (λ _. None) ids.memories;
  tags = map (λ _. None) ids.tags;
  globals = map (λ _. None) ids.globals;
  elements = map (λ _. None) ids.elements;
  segments = map (λ _. None) ids.segments;
}

-- ---- Lemmas

type_count : (types : List ℕ) → length (flat_map (λ (g : TypeGroup). g.kinds) (map (λ _. some_group) types)) ≡ length types
type_count [] = refl
type_count (id ∷ types) = ap suc (type_count types)

no_params : (types : List ℕ) → kind_params (slice_get (flat_map (λ (g : TypeGroup). g.kinds) (map (λ _. some_group) types)) 0) ≡ 0
no_params [] = refl
no_params (id ∷ types) = refl

pub file_is_numbered : (ids : Ids) → IsNumbered (file_of ids) ids
file_is_numbered ids = record { items = items; locals = locals }
  where
    items : (space : Space) → count_of (file_of ids) space ≡ length (ids_in ids space)
    items spaces.«Type» = type_count ids.types
    items spaces.Function = length-map ids.functions _
    items spaces.Table = length-map ids.tables _
    items spaces.Memory = length-map ids.memories _
    items spaces.Tag = length-map ids.tags _
    items spaces.Global = length-map ids.globals _
    items spaces.Element = length-map ids.elements _
    items spaces.Data = length-map ids.segments _
    items spaces.Local = refl
    items spaces.Label = refl

    by_slot : (id : Option ℕ) → function_locals (file_of ids) (first_slot (option_map (λ id. Some (some_function (ids.locals id))) id)) ≡ length (locals_of ids id)
    by_slot None = refl
    by_slot (Some id) =
        let none = no_params ids.types in
        let many : length (map (λ _. I32) (ids.locals id)) ≡ length (ids.locals id) = length-map (ids.locals id) _ in
        omega (arith, none, many)

    locals : (function : ℕ) → local_count (file_of ids) function ≡ length (locals_in ids function)
    locals function =
        ap (λ (slot : Option (Option Function)). function_locals (file_of ids) (first_slot slot)) (slice_get-map (λ id. Some (some_function (ids.locals id))) ids.functions function)
        ∙ by_slot (slice_get ids.functions function)

-- Lemmas: functions of a file have as many parameters in the module that it filled.
use Rattle.std.proofs.Common.{◌≡◌, ◌∙◌, ℕ, zero, suc, List, [], ◌∷◌, length, map, slice_get, slice_index_or, Option, Some, None, refl, sym, ap}
use Rattle.std.proofs.lemmas.List.{length-map}
use Rattle.std.specs.Option.{option_and_then}
use Rattle.walrus_function_types.specs.FunctionTypes.{form_params, params_at}
use Rattle.walrus_items_into.specs.walrus_functions_into.Functions.{function_as, functions_from, kind_of}
use Rattle.walrus_items_into.specs.walrus_module_env.Filled.{AreFiled}
use Rattle.walrus_items_into.specs.walrus_tables_into.walrus_sections_into.walrus_collections.walrus_local_function.walrus_body_locals.wasm_body_grammar.Codes.{kind_params}
use Rattle.walrus_items_into.specs.walrus_tables_into.walrus_sections_into.walrus_collections.walrus_local_function.walrus_body_locals.wasm_grammar.Modules.{Function as GrammarFunction}
use Rattle.walrus_items_into.specs.walrus_tables_into.walrus_sections_into.walrus_collections.walrus_local_function.walrus_body_locals.wasm_grammar.States.{form_test}
use Rattle.walrus_items_into.specs.walrus_tables_into.walrus_sections_into.walrus_forms.declared.value.ValType.{ValType}
use Rattle.walrus_items_into.specs.walrus_tables_into.walrus_sections_into.walrus_forms.Forms.{Form, FunctionForm, StructForm, ArrayForm, params_of}
use Rattle.walrus_items_into.specs.walrus_tables_into.walrus_sections_into.walrus_forms.Kinds.{Kind}
use Rattle.walrus_items_into.specs.walrus_tables_into.walrus_sections_into.walrus_forms.Renaming.{at, renamed_form, renamed_value}
use Rattle.walrus_items_into.specs.walrus_tables_into.walrus_sections_into.walrus_instr.walrus_types.Items.{Item}
use Rattle.walrus_items_into.specs.walrus_tables_into.walrus_sections_into.walrus_instr.walrus_types.Table.{Table}
use Rattle.walrus_items_into.specs.walrus_tables_into.walrus_sections_into.walrus_known_sections.Items.{function_of}
use Rattle.walrus_items_into.specs.walrus_tables_into.walrus_sections_into.walrus_known_sections.declared.items.Function.{Function as ReadFunction}
use Rattle.walrus_items_into.specs.walrus_tables_into.walrus_sections_into.walrus_module_items.declared.function.Function.{Function}
use Rattle.walrus_items_into.specs.walrus_tables_into.walrus_sections_into.walrus_module_items.Functions.{type_of}
use Rattle.walrus_items_into.specs.wasm_module_rules.Linked.{Each}

some_is : {X : Type 0} (x y : X) → Some x ≡ Some y → x ≡ y
some_is x y e = cc

-- ---- types

at_is : (ids : List ℕ) (n id : ℕ) → slice_get ids n ≡ Some id → at ids n ≡ id
at_is [] n id e = absurd cc
at_is (x ∷ ids) zero id e = some_is x id e
at_is (x ∷ ids) (suc n) id e = at_is ids n id e

-- so many parameters, whatever their types are called
abbrev HasParams : Option (List ValType) → ℕ → Type 0
HasParams o n = (ps : List ValType) × (o ≡ Some ps) × (length ps ≡ n)

form_count : (r : ℕ → ℕ) (form : Form) (kind : Kind) → form_test (Some (record kind { form = form })) ≡ None → HasParams (form_params (renamed_form r form)) (length (params_of form))
form_count r (FunctionForm params results) kind e = (map (renamed_value r) params, refl, length-map params (renamed_value r))
form_count r (StructForm fields) kind e = absurd cc
form_count r (ArrayForm field) kind e = absurd cc

pub count_at : (kinds : List Kind) (ids : List ℕ) (own : ℕ) (t : Table) → AreFiled kinds ids own t → (n : ℕ) → form_test (slice_get kinds n) ≡ None → HasParams (params_at t (at ids n)) (kind_params (slice_get kinds n))
count_at kinds ids own t filed n typed = go (slice_get kinds n) refl typed
  where
    go : (o : Option Kind) → slice_get kinds n ≡ o → form_test o ≡ None → HasParams (params_at t (at ids n)) (kind_params (slice_get kinds n))
    go None e typed = absurd cc
    go (Some kind) e typed =
        let s = filed.stand n kind e in
        let c = form_count (at ids) kind.form kind typed in (
          c.0,
          ap (params_at t) (at_is ids n s.id s.named) ∙ ap (option_and_then (λ (item : Item). form_params item.kind.form)) s.live ∙ ap (λ (k : Kind). form_params k.form) s.kind_is ∙ c.1,
          c.2 ∙ sym (ap kind_params e),
        )

-- ---- functions

abbrev numbers : List ReadFunction → List ℕ
numbers reads = map (λ (f : ReadFunction). f.ty) reads

kind_type : (ty : ℕ) (import : Option ℕ) → type_of (kind_of ty import) ≡ ty
kind_type ty None = refl
kind_type ty (Some import) = refl

-- what a function that was read has become has its type
pub read_at : (P : ℕ → Type 0) (types : List ℕ) (id : ℕ) (reads : List ReadFunction) (n : ℕ) (f : Function) → Each (λ (g : GrammarFunction). P g.ty) (map (λ (r : ReadFunction). Some (function_of r)) reads)
    → slice_index_or (functions_from types id reads) n None ≡ Some f → (type_of f.kind ≡ at types (at (numbers reads) n)) × P (at (numbers reads) n)
read_at P types id [] n f h e = absurd cc
read_at P types id (r ∷ reads) zero f h e = (ap (λ (g : Function). type_of g.kind) (sym (some_is (function_as types id r) f e)) ∙ kind_type (at types r.ty) r.import, h.0)
read_at P types id (r ∷ reads) (suc n) f h e = read_at P types (suc id) reads n f h.1 e

-- Lemmas: what is asked of a file, in words of its module and of its sections.
use Rattle.std.specs.Prelude.{◌≡◌, Bool, true, false, List, [], ◌∷◌, ◌++◌, map, Option, Some, None, slice_get, refl, if◌then◌else◌}
use Rattle.std.specs.List.{flat_map}
use Rattle.std.proofs.Common.{ap}
use Rattle.walrus_named_bodies.specs.walrus_file_bodies.walrus_items_into.walrus_module_env.walrus_handler_types.walrus_body_steps.wasm_body_grammar.wasm_formats.wasm_features.declared.WasmFeatures.{WasmFeatures}
use Rattle.walrus_named_bodies.specs.walrus_file_bodies.walrus_items_into.walrus_module_env.walrus_handler_types.walrus_body_steps.wasm_body_grammar.wasm_grammar.Modules as grammar
use Rattle.walrus_named_bodies.specs.walrus_file_bodies.walrus_items_into.walrus_module_env.walrus_handler_types.walrus_body_steps.wasm_body_grammar.wasm_grammar.States.{State, types_of}
use Rattle.walrus_named_bodies.specs.walrus_file_bodies.walrus_items_into.walrus_module_env.walrus_handler_types.walrus_body_steps.wasm_body_grammar.wasm_grammar.walrus_forms.Forms.{Form, FunctionForm, StructForm, ArrayForm}
use Rattle.walrus_named_bodies.specs.walrus_file_bodies.walrus_items_into.walrus_module_env.walrus_handler_types.walrus_body_steps.wasm_body_grammar.wasm_grammar.walrus_forms.Kinds.{Kind}
use Rattle.walrus_named_bodies.specs.walrus_file_bodies.walrus_items_into.walrus_module_env.walrus_handler_types.walrus_body_steps.wasm_body_grammar.wasm_operators.declared.block_type.BlockType.{BlockType}
use Rattle.walrus_named_bodies.specs.walrus_file_bodies.walrus_items_into.walrus_module_env.walrus_handler_types.walrus_body_steps.wasm_body_grammar.wasm_operators.declared.block_type.BlockType.TheVariants as blocks
use Rattle.wasm_import_links.specs.wasm_ruled_modules.Rules.{around_bodies}
use Rattle.walrus_named_bodies.specs.walrus_file_bodies.walrus_items_into.walrus_module_env.wasm_run_names.Picks.{block_pick, form_pick, kind_pick}
use Rattle.walrus_named_bodies.specs.walrus_file_bodies.walrus_items_into.walrus_tables_into.Customs.{is_payload as is_read_payload, plain}
use Rattle.walrus_named_bodies.specs.walrus_file_bodies.walrus_items_into.walrus_tables_into.walrus_sections_into.walrus_known_sections.Items.{custom_of}
use Rattle.walrus_named_bodies.specs.walrus_file_bodies.walrus_items_into.walrus_tables_into.walrus_sections_into.walrus_known_sections.declared.items.Custom.{Custom}
use Rattle.walrus_named_bodies.specs.walrus_file_bodies.walrus_items_into.wasm_module_rules.wasm_modules.Modules.{around, module_of}
use Rattle.walrus_parse_laws.specs.Meant.{picks}
use Rattle.walrus_parse_laws.specs.Means.{section_if}

-- ---- block types are picked by types alone

module _ (features : WasmFeatures) (s : State) (bodies : List grammar.Body) where
  form_same : (ty : BlockType) (form : Form) → form_pick (around_bodies features false (module_of s bodies)) ty form ≡ form_pick (around features s) ty form
  form_same ty (FunctionForm [] []) = refl
  form_same ty (FunctionForm [] (x ∷ [])) = refl
  form_same ty (FunctionForm [] (x ∷ (y ∷ zs))) = refl
  form_same ty (FunctionForm (p ∷ ps) results) = refl
  form_same ty (StructForm fields) = refl
  form_same ty (ArrayForm field) = refl

  kind_same : (ty : BlockType) (o : Option Kind) → kind_pick (around_bodies features false (module_of s bodies)) ty o ≡ kind_pick (around features s) ty o
  kind_same ty None = refl
  kind_same ty (Some kind) = form_same ty kind.form

  pick_same : (ty : BlockType) → picks features (module_of s bodies) ty ≡ block_pick (around features s) ty
  pick_same blocks.Empty = refl
  pick_same (blocks.Value ty) = refl
  pick_same (blocks.Type n) = kind_same (blocks.Type n) (slice_get (types_of s.filled) n)

  pub picks_same : picks features (module_of s bodies) ≡ block_pick (around features s)
  picks_same = λ i ty. pick_same ty i

-- ---- custom sections that stay sections

abbrev kept_slots : List Custom → List (Option grammar.Custom)
kept_slots cs = map (λ (c : Custom). Some (custom_of c)) cs

one_plain : (b : Bool) (c : Custom) (cs : List Custom) (l : List (Option grammar.Custom)) → l ≡ kept_slots cs
    → (if b then [] else Some (custom_of c) ∷ []) ++ l ≡ kept_slots ((if b then [] else c ∷ []) ++ cs)
one_plain true c cs l e = e
one_plain false c cs l e = ap (λ (k : List (Option grammar.Custom)). Some (custom_of c) ∷ k) e

pub plain_same : (cs : List Custom) → flat_map section_if (map (λ (c : Custom). Some (custom_of c)) cs) ≡ kept_slots (plain cs)
plain_same [] = refl
plain_same (c ∷ cs) = one_plain (is_read_payload c) c (plain cs) (flat_map section_if (map (λ (d : Custom). Some (custom_of d)) cs)) (plain_same cs)

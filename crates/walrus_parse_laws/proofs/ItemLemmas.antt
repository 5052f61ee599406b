-- Lemmas: a module that was read means the items of its file.
use Rattle.std.specs.Prelude.{ℕ, ◌≡◌, List, [], length, refl}
use Rattle.std.proofs.Common.{ap, sym, subst, ◌∙◌}
use Rattle.walrus_named_bodies.specs.walrus_file_bodies.walrus_items_into.walrus_module_bodies.walrus_body_trees.walrus_meaning.walrus_local_function.walrus_body_locals.wasm_grammar.Modules as grammar
use Rattle.walrus_named_bodies.specs.walrus_file_bodies.walrus_items_into.wasm_module_rules.wasm_modules.Modules.{module_of}
use Rattle.walrus_arena.specs.Arena.{Arena}
use Rattle.walrus_named_bodies.specs.walrus_file_bodies.Laws.{BodiesReadFiles}
use Rattle.walrus_named_bodies.specs.walrus_file_bodies.walrus_items_into.walrus_functions_into.Functions.{AreTyped}
use Rattle.walrus_named_bodies.specs.walrus_file_bodies.walrus_items_into.walrus_functions_into.Laws.{ReadFunctionsStand, read_bodies}
use Rattle.walrus_named_bodies.specs.walrus_file_bodies.walrus_items_into.walrus_module_bodies.walrus_body_trees.walrus_meaning.walrus_body_writer.walrus_pairing.walrus_index_maps.Maps.{Ids}
use Rattle.walrus_parse_laws.specs.Functions.{FunctionsFill}
use Rattle.walrus_parse_laws.specs.Meaning.{AreFilled, ModuleMeans, OrderedStay, OthersStay, type_id}
use Rattle.walrus_named_bodies.specs.walrus_file_bodies.walrus_items_into.Numbers.{types_in}
use Rattle.walrus_named_bodies.specs.walrus_file_bodies.walrus_items_into.Filled.{IsFilledFrom}
use Rattle.walrus_named_bodies.specs.walrus_file_bodies.walrus_items_into.Spaces.{Spaces}
use Rattle.walrus_named_bodies.specs.walrus_item_names.Holder.{Holder}
use Rattle.walrus_named_bodies.specs.walrus_item_names.Names.{bare_table, bare_memory, bare_tag, bare_global, bare_element, bare_data, bare_function}
use Rattle.walrus_named_bodies.specs.walrus_file_bodies.walrus_items_into.walrus_tables_into.walrus_sections_into.walrus_known_sections.State.{state_of}
use Rattle.walrus_named_bodies.specs.walrus_file_bodies.walrus_items_into.walrus_tables_into.walrus_sections_into.walrus_known_sections.declared.sections.Sections.{Sections}
use Rattle.walrus_named_bodies.specs.walrus_file_bodies.walrus_items_into.walrus_module_bodies.walrus_body_trees.walrus_meaning.Meaning.{means, slots_of, own_import, own_export, own_table, own_memory, own_tag, own_global, own_element, own_segment}
use Rattle.walrus_named_bodies.specs.walrus_item_names.walrus_module.Parts.{Module, parts}
use Rattle.walrus_named_bodies.specs.walrus_item_names.walrus_module.declared.module.Module.{Module as Whole}
use Rattle.walrus_named_bodies.specs.walrus_item_names.walrus_module.walrus_module_items.declared.function.Function.{Function}
use Rattle.walrus_named_bodies.specs.Parsed.{read_features}
use Rattle.walrus_named_bodies.specs.walrus_file_bodies.walrus_items_into.walrus_tables_into.walrus_sections_into.Becomes.{look_of}
use Rattle.walrus_named_bodies.specs.walrus_file_bodies.walrus_items_into.walrus_functions_into.walrus_types_into.Into.{NewTypesStand, TypesNameBelow}
use Rattle.walrus_named_bodies.specs.walrus_file_bodies.walrus_items_into.walrus_module_bodies.walrus_body_trees.walrus_meaning.walrus_body_writer.walrus_pairing.wasm_operators.wasm_features.declared.WasmFeatures.{WasmFeatures}
use Rattle.walrus_named_bodies.specs.walrus_file_bodies.walrus_items_into.wasm_sections.Laws.{ReadsSections}
use Rattle.walrus_parse_laws.specs.Items.{HasItems, ReadModulesHaveItems, heads, same}
use Rattle.walrus_parse_laws.proofs.ItemsFunctionLemmas.{head_in, heads_filled, heads_meant, heads_retyped, none_brought, steps_heads}
use Rattle.walrus_parse_laws.proofs.BareLemmas.{same_seen}

module _ {B : Type 0} where
  -- the module as its sections filled it, no body read and no name given
  abbrev filled_module : Whole B → Spaces B → Module
  filled_module m f = record (parts m) {
    types = f.types;
    imports = f.imports;
    funcs = f.functions;
    tables = f.tables;
    memories = f.memories;
    tags = f.tags;
    globals = f.globals;
    exports = f.exports;
    elements = f.elements;
    data_segments = f.segments;
  }

  others_stay : OrderedStay → (s : Sections) (i : Ids) (m : Whole B) (f : Spaces B) → IsFilledFrom s m.start i f → OthersStay (look_of i)
  others_stay ordered s i m f h = ordered i (record {
    functions = (length s.functions.items, ap (λ (j : Ids). j.functions) h.numbers);
    tables = (length s.tables.items, ap (λ (j : Ids). j.tables) h.numbers);
    memories = (length s.memories.items, ap (λ (j : Ids). j.memories) h.numbers);
    tags = (length s.tags.items, ap (λ (j : Ids). j.tags) h.numbers);
    globals = (length s.globals.items, ap (λ (j : Ids). j.globals) h.numbers);
    elements = (length s.elements.items, ap (λ (j : Ids). j.elements) h.numbers);
    segments = (length s.segments.items, ap (λ (j : Ids). j.segments) h.numbers);
    locals = ap (λ (j : Ids). j.locals 0) h.numbers;
  })

  are_filled : FunctionsFill → TypesNameBelow → NewTypesStand → ReadFunctionsStand → (features : WasmFeatures) (bytes : List ℕ) (s : Sections) (i : Ids) (m : Whole B) (f : Spaces B)
      → ReadsSections features bytes (state_of s) → IsFilledFrom s m.start i f → AreFilled s (look_of i) (filled_module m f)
  are_filled fill below stand typed features bytes s i m f reads h =
      let all = (typed features bytes s (types_in s).ids (types_in s).table 0 reads (stand s.types (below features bytes (state_of s) reads))).0 in
      let named : AreTyped i.types s.functions.items = subst (λ (ids : List ℕ). AreTyped ids s.functions.items) (sym (ap (λ (j : Ids). j.types) h.numbers)) all in
      let none : Arena Function = record { slots = []; room = 0 } in record {
        types = h.types;
        imports = h.imports;
        functions = fill (look_of i) i.types s.functions.items none f.functions (λ n. refl) named h.functions;
        tables = h.tables;
        memories = h.memories;
        tags = h.tags;
        globals = h.globals;
        exports = h.exports;
        start = h.start;
        elements = h.elements;
        segments = h.segments;
      }

  pub have_items : OrderedStay → ModuleMeans → FunctionsFill → TypesNameBelow → NewTypesStand → ReadFunctionsStand → BodiesReadFiles B → ReadModulesHaveItems B
  have_items ordered module_means fill below stand typed bodies_read config bytes m found small is =
      let h = is.1 in
      let s = h.sections in
      let i = h.numbers in
      let f = h.filled in
      let features = read_features config in
      let r = type_id (look_of i) in
      let file = module_of (state_of s) h.bodies in
      let fm = filled_module m f in
      let stay = others_stay ordered s i m f h.are_filled in
      let filled = are_filled fill below stand typed features bytes s i m f h.reads.sections h.are_filled in
      let mm = module_means features bytes s (look_of i) fm small h.reads.sections stay filled in
      let read = bodies_read features bytes s m.start i f h.file [] h.bodied h.reads.short small h.reads.sections h.are_filled h.is_file h.bodies_are in
      let numbered : found ≡ record i { locals = h.bodied.ids.locals } = h.found_are ∙ read.3 in
      let same_ids : type_id (look_of found) ≡ r = ap (λ (j : Ids). type_id (look_of j)) numbered in
      let named = h.names.same in
      let functions : heads same (means (parts m)).functions ≡ heads r file.functions =
      heads_meant m.locals m.funcs.slots
      ∙ same_seen head_in bare_function (λ x. refl) m.funcs h.bodied.functions (ap (λ (a : Holder). a.funcs) named)
      ∙ steps_heads h.file features _ _ h.bodied (none_brought f.functions (read_bodies s.bodies)) h.bodies_are
      ∙ sym (heads_meant m.locals f.functions.slots)
      ∙ ap (λ (g : grammar.Module). heads same g.functions) mm
      ∙ heads_retyped r (state_of s).filled.functions
      ∙ sym (heads_filled r (state_of s).filled.functions h.bodies) in
      let items : HasItems r file (means (parts m)) = record {
        imports = ap (slots_of own_import) h.imports ∙ ap (λ (g : grammar.Module). g.imports) mm;
        functions = functions;
        tables = same_seen own_table bare_table (λ x. refl) m.tables f.tables (ap (λ (a : Holder). a.tables) named) ∙ ap (λ (g : grammar.Module). g.tables) mm;
        memories = same_seen own_memory bare_memory (λ x. refl) m.memories f.memories (ap (λ (a : Holder). a.memories) named) ∙ ap (λ (g : grammar.Module). g.memories) mm;
        tags = same_seen own_tag bare_tag (λ x. refl) m.tags f.tags (ap (λ (a : Holder). a.tags) named) ∙ ap (λ (g : grammar.Module). g.tags) mm;
        globals = same_seen own_global bare_global (λ x. refl) m.globals f.globals (ap (λ (a : Holder). a.globals) named) ∙ ap (λ (g : grammar.Module). g.globals) mm;
        exports = ap (slots_of own_export) h.exports ∙ ap (λ (g : grammar.Module). g.exports) mm;
        start = ap (λ (g : grammar.Module). g.start) mm;
        elements = same_seen own_element bare_element (λ x. refl) m.elements f.elements (ap (λ (a : Holder). a.elements) named) ∙ ap (λ (g : grammar.Module). g.elements) mm;
        segments = same_seen own_segment bare_data (λ x. refl) m.data_segments f.segments (ap (λ (a : Holder). a.data_segments) named) ∙ ap (λ (g : grammar.Module). g.segments) mm;
      } in
      ((h.reads.short, (state_of s, h.bodies, h.reads.sections, h.reads.codes_are, refl)), subst (λ (q : ℕ → ℕ). HasItems q file (means (parts m))) (sym same_ids) items)

-- Lemmas: nothing of what was read lacks anything.
use Rattle.std.specs.Prelude.{ℕ, ◌≤◌, ◌<◌, ◌≡◌, ◌⊎◌, true, List, [], length, All, Some, None, slice_get, refl}
use Rattle.std.specs.List.{Any}
use Rattle.std.proofs.Common.{subst, arith, inl, inr}
use Rattle.std.proofs.lemmas.List.{length-map}
use Rattle.std.proofs.lemmas.Option.{slice_get-get_or}
use Rattle.walrus_tables_into.specs.walrus_sections_into.walrus_collections.walrus_local_function.walrus_body_locals.walrus_body_nesting.wasm_formats.wasm_features.declared.WasmFeatures.{WasmFeatures}
use Rattle.walrus_tables_into.specs.walrus_sections_into.walrus_collections.walrus_local_function.walrus_body_locals.wasm_grammar.Modules as grammar
use Rattle.walrus_tables_into.specs.walrus_sections_into.walrus_collections.walrus_local_function.walrus_body_locals.wasm_grammar.Modules.{Module}
use Rattle.walrus_tables_into.specs.walrus_sections_into.walrus_collections.walrus_local_function.walrus_body_locals.wasm_grammar.States.{State, types_of}
use Rattle.walrus_tables_into.specs.walrus_sections_into.walrus_known_sections.wasm_sections.Laws.{ReadsSections}
use Rattle.wasm_spelled_modules.specs.wasm_module_rules.Linked.{IsLinked, IsFunctionType, IsThere, GoesInto, AreListed}
use Rattle.wasm_spelled_modules.specs.wasm_module_rules.Reading.{file_linked}
use Rattle.wasm_ruled_modules.specs.Rules.{IsCounted, AreNamed, ItemsBelow, AreExpressed, IsInit, IsPlaced, ItemsKnown, knows, knows_imported, table_wide, memory_wide, is_imported}
use Rattle.wasm_ruled_modules.specs.Keeping.{file_kept, file_kept_at}
use Rattle.wasm_ruled_modules.specs.Counted.{counts_kept, none_counted}
use Rattle.wasm_ruled_modules.specs.Named.{names_kept, none_named}
use Rattle.wasm_ruled_modules.specs.Expressed.{Stands, stands_later, expressions_kept, none_stands}
use Rattle.wasm_spelled_modules.specs.wasm_section_bytes.Flags.{IsNotDeclared}
use Rattle.wasm_spelled_modules.specs.Spelled.{InitIsSpelled, OriginIsSpelled, ModeIsSpelled, ItemsAreSpelled, is_external, AreSpelled}
use Rattle.wasm_spelled_modules.proofs.Kept.{read_sections_are_spelled}
use Rattle.walrus_tables_into.specs.walrus_sections_into.walrus_forms.Records.{ref_of}
use Rattle.walrus_tables_into.specs.walrus_sections_into.walrus_forms.Renaming.{RefBelow, ValueBelow}
use Rattle.walrus_tables_into.specs.walrus_sections_into.Becomes.{look_of}
use Rattle.walrus_tables_into.specs.walrus_sections_into.Lacks.{DataLacks, ExportLacks, ImportLacks, TagLacks}
use Rattle.walrus_tables_into.specs.walrus_sections_into.walrus_index_maps.Maps.{Ids}
use Rattle.walrus_tables_into.specs.walrus_sections_into.walrus_pairing.Looks.{Look}
use Rattle.walrus_tables_into.specs.walrus_sections_into.walrus_known_sections.Items.{import_of, table_of, tag_of, export_of, element_of, data_of}
use Rattle.walrus_tables_into.specs.walrus_sections_into.walrus_known_sections.State.{state_of}
use Rattle.walrus_tables_into.specs.walrus_sections_into.walrus_known_sections.declared.items.Element.{Element}
use Rattle.walrus_tables_into.specs.walrus_sections_into.walrus_known_sections.declared.items.Import.{Import}
use Rattle.walrus_tables_into.specs.walrus_sections_into.walrus_known_sections.declared.items.Table.{Table}
use Rattle.walrus_tables_into.specs.walrus_sections_into.walrus_known_sections.declared.sections.Sections.{Sections}
use Rattle.walrus_tables_into.specs.walrus_section_values.Globals.{global_of}
use Rattle.walrus_tables_into.specs.Elements.{ElementLacks}
use Rattle.walrus_tables_into.specs.Globals.{GlobalLacks}
use Rattle.walrus_tables_into.specs.Tables.{TableLacks}
use Rattle.walrus_read_laws.specs.Numbered.{Finds}
use Rattle.walrus_read_laws.specs.Whole.{AreNumbered, LackNothing, ReadSectionsLackNothing}
use Rattle.walrus_read_laws.proofs.Items.{FindsAll, finds, tag_there, start_there, item_there, ref_there, init_there, not_both, globals_there, mode_there, place_there, items_there, number_small}
use Rattle.walrus_read_laws.proofs.Lists.{both, each_none, filter_shorter, not_any}

-- a list of ids has one at each number below its length
in_list : (ids : List ℕ) (count n : ℕ) → length ids ≡ count → n < count → (id : ℕ) × (slice_get ids n ≡ Some id)
in_list ids count n size lt = (_, slice_get-get_or ids n 0 (omega (arith, size, lt)))

all_found : (ids : Ids) (m : Module) → AreNumbered ids m → FindsAll (look_of ids) m
all_found ids m h = record {
  types = λ n lt. in_list ids.types (length (types_of m)) n h.types lt;
  functions = λ n lt. in_list ids.functions (length m.functions) n h.functions lt;
  tables = λ n lt. in_list ids.tables (length m.tables) n h.tables lt;
  memories = λ n lt. in_list ids.memories (length m.memories) n h.memories lt;
  tags = λ n lt. in_list ids.tags (length m.tags) n h.tags lt;
  globals = λ n lt. in_list ids.globals (length m.globals) n h.globals lt;
}

-- what is so of a module that was read
record IsRead (features : WasmFeatures) (m : Module) : Type 0 where
  linked : IsLinked m
  counted : IsCounted m
  named : AreNamed m
  expressed : AreExpressed m
  spelled : AreSpelled features m

is_read : (features : WasmFeatures) (bytes : List ℕ) (s : State) → All (λ b. b < 256) bytes → ReadsSections features bytes s → IsRead features s.filled
is_read features bytes s small h =
    let stands = file_kept_at features Stands stands_later (expressions_kept features) none_stands bytes h.0 h.1.0 h.1.1 in record {
      linked = subst (λ (s : State). IsLinked s.filled) h.2 (file_linked features bytes h.0 h.1.0 h.1.1);
      counted = subst (λ (s : State). IsCounted s.filled) h.2 (file_kept features IsCounted (counts_kept features) none_counted bytes h.0 h.1.0 h.1.1);
      named = subst (λ (s : State). AreNamed s.filled) h.2 (file_kept features AreNamed (names_kept features) none_named bytes h.0 h.1.0 h.1.1);
      expressed = subst (λ (s : State). AreExpressed s.filled) h.2 stands.0.1;
      spelled = read_sections_are_spelled features bytes s small h;
    }

module _ (features : WasmFeatures) (look : Look) (s : Sections) (read : IsRead features (state_of s).filled) (found : FindsAll look (state_of s).filled) where
  abbrev m : Module
  m = (state_of s).filled

  imports_whole : Any (ImportLacks look) s.imports.items → ⊥
  imports_whole = not_any (ImportLacks look) s.imports.items (each_none (λ (i : grammar.Import). IsThere m i.item × (is_external i.item.space ≡ true)) import_of (ImportLacks look) one s.imports.items
      (both (λ (i : grammar.Import). IsThere m i.item) (λ (i : grammar.Import). is_external i.item.space ≡ true) m.imports read.linked.imports_there read.spelled.imports))
    where
      one : (i : Import) → IsThere m (import_of i).item × (is_external i.space ≡ true) → ImportLacks look i → ⊥
      one i h (inl past) = number_small m read.counted i.space i.index h.1 h.0 past
      one i h (inr lacks) = item_there look m found i.space i.index h.1 h.0 lacks

  exports_whole : Any (ExportLacks look) s.exports.items → ⊥
  exports_whole = not_any (ExportLacks look) s.exports.items (each_none (λ (e : grammar.Export). IsThere m e.item × (is_external e.item.space ≡ true)) export_of (ExportLacks look)
      (λ e h. item_there look m found e.space e.index h.1 h.0) s.exports.items
      (both (λ (e : grammar.Export). IsThere m e.item) (λ (e : grammar.Export). is_external e.item.space ≡ true) m.exports read.linked.exports_there read.spelled.exports))

  tags_whole : Any (TagLacks look) s.tags.items → ⊥
  tags_whole = not_any (TagLacks look) s.tags.items (each_none (λ (t : grammar.Tag). IsFunctionType m t.ty) tag_of (TagLacks look) (λ t h. tag_there look m found t.ty h) s.tags.items read.linked.tags_typed)

  tables_whole : Any (TableLacks look) s.tables.items → ⊥
  tables_whole = not_any (TableLacks look) s.tables.items (each_none (λ (t : grammar.Table). RefBelow (length (types_of m)) t.element × (IsInit (knows_imported m) t.init × (InitIsSpelled features t.init × ((t.init ≡ None) ⊎ (t.imported ≡ None)))))
      table_of (TableLacks look) one s.tables.items
      (both (λ (t : grammar.Table). RefBelow (length (types_of m)) t.element) (λ (t : grammar.Table). IsInit (knows_imported m) t.init × (InitIsSpelled features t.init × ((t.init ≡ None) ⊎ (t.imported ≡ None)))) m.tables read.named.tables
      (both (λ (t : grammar.Table). IsInit (knows_imported m) t.init) (λ (t : grammar.Table). InitIsSpelled features t.init × ((t.init ≡ None) ⊎ (t.imported ≡ None))) m.tables read.expressed.tables read.spelled.tables)))
    where
      seen_too : Finds look (knows_imported m)
      seen_too = finds look m found (knows_imported m) refl refl (filter_shorter is_imported m.globals)

      one : (t : Table) → RefBelow (length (types_of m)) (ref_of t.ty.element)
          × (IsInit (knows_imported m) (table_of t).init × (InitIsSpelled features (table_of t).init × (((table_of t).init ≡ None) ⊎ (t.import ≡ None)))) → TableLacks look t → ⊥
      one t h (inl lacks) = ref_there look m found (ref_of t.ty.element) h.0 lacks
      one t h (inr (inl lacks)) = init_there look m found features (knows_imported m) seen_too t.init h.1.0 h.1.1.0 lacks
      one t h (inr (inr lacks)) = not_both t.init t.import h.1.1.1 lacks

  globals_whole : Any (GlobalLacks look) s.globals.items → ⊥
  globals_whole =
      let le : length m.globals ≤ length m.globals = omega arith in
      not_any (GlobalLacks look) s.globals.items (globals_there look m found features [] s.globals.items (omega (arith, length-map s.globals.items (λ g. Some (global_of g)))) read.expressed.globals
      (both (λ (g : grammar.Global). ValueBelow (length (types_of m)) g.ty) (λ (g : grammar.Global). OriginIsSpelled features g.origin) m.globals read.named.globals read.spelled.globals))

  abbrev Whole : grammar.Element → Type 0
  Whole e = (GoesInto (length m.tables) e.mode × AreListed (length m.functions) e.items) × ((ItemsBelow (length (types_of m)) e.items
      × (IsPlaced (table_wide m.tables) (knows m) e.mode × ItemsKnown (knows m) e.items)) × (ModeIsSpelled features e.mode × ItemsAreSpelled features e.items))

  elements_whole : Any (ElementLacks look) s.elements.items → ⊥
  elements_whole = not_any (ElementLacks look) s.elements.items (each_none Whole element_of (ElementLacks look) one s.elements.items
      (both _ _ m.elements (both _ _ m.elements read.linked.elements_there read.linked.elements_listed)
      (both _ _ m.elements (both _ _ m.elements read.named.elements (both _ _ m.elements read.expressed.offsets read.expressed.items)) read.spelled.elements)))
    where
      one : (e : Element) → Whole (element_of e) → ElementLacks look e → ⊥
      one e h (inl lacks) = mode_there look m found features (table_wide m.tables) e.mode h.0.0 h.1.0.1.0 h.1.1.0 lacks
      one e h (inr lacks) = items_there look m found features e.items h.0.1 h.1.0.0 h.1.0.1.1 h.1.1.1 lacks

  segments_whole : Any (DataLacks look) s.segments.items → ⊥
  segments_whole = not_any (DataLacks look) s.segments.items (each_none (λ (x : grammar.Segment). GoesInto (length m.memories) x.mode × (IsPlaced (memory_wide m.memories) (knows m) x.mode × (ModeIsSpelled features x.mode × IsNotDeclared x.mode)))
      data_of (DataLacks look) (λ d h. place_there look m found features (memory_wide m.memories) d.mode h.0 h.1.0 h.1.1.0 h.1.1.1) s.segments.items
      (both _ _ m.segments read.linked.segments_there (both _ _ m.segments read.expressed.segments read.spelled.segments)))

  nothing_lacks : LackNothing look s
  nothing_lacks = record {
    imports = imports_whole;
    tables = tables_whole;
    tags = tags_whole;
    globals = globals_whole;
    exports = exports_whole;
    start = start_there look m found s.start read.linked.start_there;
    elements = elements_whole;
    segments = segments_whole;
  }

pub read_sections_lack_nothing : ReadSectionsLackNothing
read_sections_lack_nothing features bytes s ids small h numbered =
    nothing_lacks features (look_of ids) s (is_read features bytes (state_of s) small h) (all_found ids (state_of s).filled numbered)

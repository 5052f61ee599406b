-- Lemmas: laws of sections.
use Rattle.std.specs.Prelude.{◌≡◌, ◌⊎◌, ◌++◌, length, Result, Ok, Err, refl}
use Rattle.std.proofs.Common.{ap, sym, ◌∙◌, subst, inl, inr}
use Rattle.wasm_grammar.specs.wasm_formats.Stops.{Stop, moved}
use Rattle.wasm_grammar.specs.wasm_formats.Formats.{Whole, InsideAll, done_is, done_refused, refused_is}
use Rattle.wasm_grammar.specs.wasm_formats.Lists.{vec}
use Rattle.wasm_grammar.specs.wasm_formats.Wholes.{u32, whole}
use Rattle.wasm_file_formats.specs.Counted.{counted}
use Rattle.wasm_grammar.specs.States.{State}
use Rattle.wasm_sections.specs.Modules.{FileEntry, file, state_of}
use Rattle.wasm_file_formats.specs.Free.{format_free}
use Rattle.wasm_grammar.specs.Exprs.{expr}
use Rattle.wasm_sections.specs.TypeSection.{group, add_group}
use Rattle.wasm_sections.specs.Entities.{import_entry, add_import, function_entry, add_function, table_entry, add_table, memory_entry, add_memory, tag_entry, add_tag, global_entry, add_global}
use Rattle.wasm_sections.specs.Exports.{export_entry, add_export, start_function}
use Rattle.wasm_sections.specs.Segments.{element_entry, add_element, data_entry, add_data}
use Rattle.wasm_sections.specs.Sections.{custom, code, data_test, section_entry}
use Rattle.wasm_sections.specs.Laws.{ReadsSections, StopsSections, SectionsReadOnce, SectionsDontStop, SectionsReadOrStop, SectionsStopOnce, SectionsStopInside, IsFinalIn, ContentsStopForGood, EntriesArePrefixFree}

pub sections_read_once : SectionsReadOnce
sections_read_once features bytes s t h k =
    let f = file features in
    let same = done_is h.0 k.0 (sym (f.again bytes h.0 h.1.0 h.1.1) ∙ f.again bytes k.0 k.1.0 k.1.1) in
    sym h.2 ∙ ap state_of same ∙ k.2

pub sections_dont_stop : SectionsDontStop
sections_dont_stop features bytes s e h stops = let f = file features in done_refused h.0 e (sym (f.again bytes h.0 h.1.0 h.1.1) ∙ f.tells bytes e stops)

pub sections_read_or_stop : SectionsReadOrStop
sections_read_or_stop features bytes small = go ((file features).parse bytes) refl
  where
    go : (r : Result FileEntry Stop) → (file features).parse bytes ≡ r → ((s : State) × ReadsSections features bytes s) ⊎ ((e : Stop) × StopsSections features bytes e)
    go (Ok x) e = inl (state_of x, (x, (file features).found bytes x small e, refl))
    go (Err s) e = inr (s, (file features).told bytes s small e)

pub sections_stop_once : SectionsStopOnce
sections_stop_once features bytes e f h k = let g = file features in refused_is {A = FileEntry} e f (sym (g.tells bytes e h) ∙ g.tells bytes f k)

pub sections_stop_inside : SectionsStopInside
sections_stop_inside features bytes e h = let f = file features in subst (λ (r : Result FileEntry Stop). InsideAll (length bytes) r) (f.tells bytes e h) (f.within bytes)

final_in : {A : Type 0} (f : Whole A) → IsFinalIn f
final_in f bytes e small h k more all = f.told (bytes ++ more) (moved (length more) e) all (f.final bytes more e small (f.tells bytes e h) k)

pub contents_stop_for_good : ContentsStopForGood
contents_stop_for_good = record {
  custom = final_in custom;
  types = λ features s. final_in (whole (vec add_group (group features) s));
  imports = λ features s. final_in (whole (vec add_import (import_entry features) s));
  functions = λ s. final_in (whole (vec add_function function_entry s));
  tables = λ features s. final_in (whole (vec add_table (table_entry features) s));
  memories = λ s. final_in (whole (vec add_memory memory_entry s));
  tags = λ s. final_in (whole (vec add_tag tag_entry s));
  globals = λ features s. final_in (whole (vec add_global (global_entry features) s));
  exports = λ s. final_in (whole (vec add_export export_entry s));
  start = λ s. final_in (whole (start_function s));
  elements = λ features s. final_in (whole (vec add_element (element_entry features) s));
  data_count = final_in (whole u32);
  code = λ s. final_in (whole (code s));
  segments = λ features s. final_in (whole (counted add_data (data_entry features) (data_test s.data_count) s));
}

pub entries_are_prefix_free : EntriesArePrefixFree
entries_are_prefix_free = record {
  groups = λ features s. format_free (group features s);
  imports = λ features s. format_free (import_entry features s);
  functions = λ s. format_free (function_entry s);
  tables = λ features s. format_free (table_entry features s);
  memories = λ s. format_free (memory_entry s);
  tags = λ s. format_free (tag_entry s);
  globals = λ features s. format_free (global_entry features s);
  exports = λ s. format_free (export_entry s);
  elements = λ features s. format_free (element_entry features s);
  data_segments = λ features s. format_free (data_entry features s);
  constants = λ features k. format_free (expr features k);
  sections = λ features s. format_free (section_entry features s);
}

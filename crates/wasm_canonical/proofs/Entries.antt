-- Lemmas: the contents of the sections that are due to a module are within the limits of the format where its items are.
use Rattle.std.specs.Prelude.{ℕ, suc, ◌<◌, ◌≤◌, ◌≡◌, ◌^◌, Bool, true, false, List, [], ◌∷◌, ◌++◌, length, map, Option, Some, None, refl}
use Rattle.std.specs.List.{AllByRecursion, cons_option, filter_map}
use Rattle.std.proofs.Common.{ap, arith}
use Rattle.wasm_features.specs.declared.WasmFeatures.{WasmFeatures}
use Rattle.wasm_formats.specs.declared.fault.Space.TheVariants as spaces
use Rattle.wasm_formats.specs.Bytes.{either_type}
use Rattle.wasm_formats.specs.Formats.{Format}
use Rattle.wasm_format_bytes.specs.Writers.{Writer}
use Rattle.wasm_format_bytes.specs.Lists.{EntriesFit, followed_writer}
use Rattle.wasm_grammar.specs.Modules.{Custom, Module}
use Rattle.wasm_grammar.specs.States.{State, has_room, nothing_yet}
use Rattle.wasm_grammar_bytes.specs.Values.{name_writer}
use Rattle.wasm_body_grammar.specs.Codes.{own_type}
use Rattle.wasm_sections.specs.TypeSection.{GroupEntry, add_group, group}
use Rattle.wasm_sections.specs.Entities.{add_function, add_global, add_import, add_memory, add_table, add_tag, function_entry, global_entry, import_entry, memory_entry, table_entry, tag_entry}
use Rattle.wasm_sections.specs.Exports.{add_export, export_entry}
use Rattle.wasm_sections.specs.Segments.{add_data, add_element, data_entry, element_entry}
use Rattle.wasm_sections.specs.Sections.{Section, TypeSection, ImportSection, FunctionSection, TableSection, MemorySection, TagSection, GlobalSection, ExportSection, ElementSection, DataSection, SectionEntry, behind_chunk, chunk_entry, next}
use Rattle.wasm_section_bytes.specs.Entries.{export_writer, function_writer, global_writer, import_writer, memory_writer, table_writer, tag_writer}
use Rattle.wasm_section_bytes.specs.Flags.{entry_of_element, entry_of_segment}
use Rattle.wasm_section_bytes.specs.Placed.{AllFit, chunk_placed, group_placed}
use Rattle.wasm_section_bytes.specs.Sections.{rest_writer}
use Rattle.wasm_section_bytes.specs.Segments.{data_writer, element_writer}
use Rattle.wasm_module_bytes.specs.Due.{export_from, group_from}
use Rattle.wasm_ruled_modules.specs.Rules.{IsCounted, table_wide}
use Rattle.wasm_canonical.specs.Due.{chunk_due, code_if, count_if, custom_due, import_due, items_in, own_global, own_memory, own_table, own_tag, section_if, standard_due, start_if}
use Rattle.wasm_canonical.specs.Entries.{DueContentsFit, DueEntriesFit, StartFits}
use Rattle.wasm_canonical.specs.Formed.{AreNotLong}
use Rattle.wasm_canonical.specs.Sizes.{ContentFits, ContentsFit}

-- ---- counts

cons_less : {B : Type 0} (n : ℕ) (o : Option B) (ys : List B) → length ys ≤ n → length (cons_option o ys) ≤ suc n
cons_less n None ys le = omega (arith, le)
cons_less n (Some y) ys le = omega (arith, le)

pub filter_less : {A B : Type 0} (f : A → Option B) (xs : List A) → length (filter_map f xs) ≤ length xs
filter_less f [] = omega arith
filter_less f (x ∷ xs) = cons_less (length xs) (f x) (filter_map f xs) (filter_less f xs)

map_count : {A B : Type 0} (f : A → B) (xs : List A) → length (map f xs) ≡ length xs
map_count f [] = refl
map_count f (x ∷ xs) = ap (λ (n : ℕ). suc n) (map_count f xs)

few_own : {A B : Type 0} (f : A → Option B) (xs : List A) → length xs ≤ 1000000 → length (filter_map f xs) < 2 ^ 32
few_own f xs le = let less = filter_less f xs in omega (arith, le, less)

few_items : {A B : Type 0} (f : A → B) (xs : List (Option A)) → length xs ≤ 1000000 → length (map f (items_in xs)) < 2 ^ 32
few_items {A} f xs le =
    let less = filter_less (λ (o : Option A). o) xs in
    let same = map_count f (items_in xs) in
    omega (arith, le, less, same)

-- ---- entries at any state

in_room : {P : Type 0} (room : Bool) → P → either_type room P P
in_room true h = h
in_room false h = h

module _ {A S : Type 0} (next : S → A → S) (entry : S → Format A) (w : (s : S) → Writer (entry s)) (P : A → Type 0) (free : (s : S) (x : A) → P x → (w s).fits x) where
  entries_fit : (s : S) (xs : List A) → AllByRecursion P xs → EntriesFit next entry w s xs
  entries_fit s [] h = tt
  entries_fit s (x ∷ xs) h = (free s x h.0, entries_fit (next s x) xs h.1)

-- ---- sections

module _ (features : WasmFeatures) where
  groups_fit : (xs : List GroupEntry) → AllByRecursion (group_placed features).fits xs → AllFit add_group (group features) (group_placed features) xs
  groups_fit [] h = tt
  groups_fit (x ∷ xs) h = (h.0, groups_fit xs h.1)

  chunks_fit : (bodies : List (List ℕ)) → AreNotLong bodies → AllFit behind_chunk chunk_entry chunk_placed (map chunk_due bodies)
  chunks_fit [] h = tt
  chunks_fit (b ∷ bodies) h = let le = h.0 in ((omega (arith, le), refl), chunks_fit bodies h.1)

  contents_at : (s : State) (xs ys : List SectionEntry) → ContentsFit features s xs → ((s : State) → ContentsFit features s ys) → ContentsFit features s (xs ++ ys)
  contents_at s [] ys h k = k s
  contents_at s (x ∷ xs) ys h k = (h.0, h.1, contents_at (next s x) xs ys h.2 k)

  contents_join : (xs ys : List SectionEntry) → ((s : State) → ContentsFit features s xs) → ((s : State) → ContentsFit features s ys) → (s : State) → ContentsFit features s (xs ++ ys)
  contents_join xs ys h k s = contents_at s xs ys (h s) k

  section_fit : {A : Type 0} (into : List A → Section) (xs : List A) → ((s : State) → ContentFits features s (into xs)) → (s : State) → ContentsFit features s (section_if into xs)
  section_fit into [] h s = tt
  section_fit into (x ∷ xs) h s = (refl, h s, tt)

  start_fit : (o : Option ℕ) → StartFits o → (s : State) → ContentsFit features s (start_if o)
  start_fit None h s = tt
  start_fit (Some n) h s = (refl, h, tt)

  count_fit : (counted : Bool) (n : ℕ) → n ≤ 1000000 → (s : State) → ContentsFit features s (count_if counted n)
  count_fit false n le s = tt
  count_fit true n le s = (refl, omega (arith, le), tt)

  code_fit : (bodies : List (List ℕ)) → AreNotLong bodies → length bodies ≤ 1000000 → (s : State) → ContentsFit features s (code_if bodies)
  code_fit [] h le s = tt
  code_fit (b ∷ bodies) h le s = (refl, (omega (arith, le), chunks_fit (b ∷ bodies) h, map_count chunk_due (b ∷ bodies)), tt)

  customs_fit : (cs : List Custom) → AllByRecursion (λ (c : Custom). (followed_writer name_writer (λ _. rest_writer)).fits (c.name, c.bytes)) cs → (s : State) → ContentsFit features s (map custom_due cs)
  customs_fit [] h s = tt
  customs_fit (c ∷ cs) h s = (refl, h.0, customs_fit cs h.1 (next s (custom_due c)))

  standard_fit : (bodies : List (List ℕ)) (counted : Bool) (first last : List Custom) (m : Module) → IsCounted m → DueEntriesFit features first last m → AreNotLong bodies → length bodies ≤ 1000000
      → (s : State) → ContentsFit features s (standard_due bodies counted m)
  standard_fit bodies counted first last m n h short le =
      contents_join (section_if TypeSection (map group_from m.groups)) _ (section_fit TypeSection (map group_from m.groups) (λ s. (let few = h.few_groups in let same = map_count group_from m.groups in omega (arith, few, same), groups_fit (map group_from m.groups) h.groups))) (
      contents_join (section_if ImportSection (map (import_due m) (items_in m.imports))) _ (section_fit ImportSection (map (import_due m) (items_in m.imports))
      (λ s. (few_items (import_due m) m.imports n.imports, entries_fit add_import (import_entry features) (import_writer features) (import_writer features nothing_yet).fits (λ s x h. h) s (map (import_due m) (items_in m.imports)) h.imports))) (
      contents_join (section_if FunctionSection (filter_map own_type m.functions)) _ (section_fit FunctionSection (filter_map own_type m.functions)
      (λ s. (few_own own_type m.functions n.functions, entries_fit add_function function_entry function_writer (function_writer nothing_yet).fits (λ s x h. h) s (filter_map own_type m.functions) h.functions))) (
      contents_join (section_if TableSection (filter_map own_table m.tables)) _ (section_fit TableSection (filter_map own_table m.tables)
      (λ s. (few_own own_table m.tables (let le = n.tables in omega (arith, le)), entries_fit add_table (table_entry features) (table_writer features) (table_writer features nothing_yet).fits (λ s x h. in_room (has_room s spaces.Table) h) s (filter_map own_table m.tables) h.tables))) (
      contents_join (section_if MemorySection (filter_map own_memory m.memories)) _ (section_fit MemorySection (filter_map own_memory m.memories)
      (λ s. (few_own own_memory m.memories (let le = n.memories in omega (arith, le)), entries_fit add_memory memory_entry memory_writer (memory_writer nothing_yet).fits (λ s x h. h) s (filter_map own_memory m.memories) h.memories))) (
      contents_join (section_if TagSection (filter_map own_tag m.tags)) _ (section_fit TagSection (filter_map own_tag m.tags)
      (λ s. (few_own own_tag m.tags n.tags, entries_fit add_tag tag_entry tag_writer (tag_writer nothing_yet).fits (λ s x h. in_room (has_room s spaces.Tag) h) s (filter_map own_tag m.tags) h.tags))) (
      contents_join (section_if GlobalSection (filter_map own_global m.globals)) _ (section_fit GlobalSection (filter_map own_global m.globals)
      (λ s. (few_own own_global m.globals n.globals, entries_fit add_global (global_entry features) (global_writer features) (global_writer features nothing_yet).fits (λ s x h. in_room (has_room s spaces.Global) h) s (filter_map own_global m.globals) h.globals))) (
      contents_join (section_if ExportSection (map export_from (items_in m.exports))) _ (section_fit ExportSection (map export_from (items_in m.exports))
      (λ s. (few_items export_from m.exports n.exports, entries_fit add_export export_entry export_writer (export_writer nothing_yet).fits (λ s x h. h) s (map export_from (items_in m.exports)) h.exports))) (
      contents_join (start_if m.start) _ (start_fit m.start h.start) (
      contents_join (section_if ElementSection (map (entry_of_element (table_wide m.tables)) (items_in m.elements))) _ (section_fit ElementSection (map (entry_of_element (table_wide m.tables)) (items_in m.elements))
      (λ s. (
        few_items (entry_of_element (table_wide m.tables)) m.elements (let le = n.elements in omega (arith, le)),
        entries_fit add_element (element_entry features) (element_writer features) (element_writer features nothing_yet).fits
            (λ s x h. in_room (has_room s spaces.Element) h) s (map (entry_of_element (table_wide m.tables)) (items_in m.elements)) h.elements,
      ))) (
      contents_join (count_if counted (length m.segments)) _ (count_fit counted (length m.segments) (let le = n.segments in omega (arith, le))) (
      contents_join (code_if bodies) _ (code_fit bodies short le)
      (section_fit DataSection (map entry_of_segment (items_in m.segments))
      (λ s. (
        few_items entry_of_segment m.segments (let le = n.segments in omega (arith, le)),
        entries_fit add_data (data_entry features) (data_writer features) (data_writer features nothing_yet).fits
            (λ s x h. in_room (has_room s spaces.Data) h) s (map entry_of_segment (items_in m.segments)) h.segments,
      ))))))))))))))

pub contents_fit : DueContentsFit
contents_fit features bodies counted first last m n h short le =
    contents_join features (map custom_due first) (standard_due bodies counted m ++ map custom_due last) (customs_fit features first h.first_customs)
    (contents_join features (standard_due bodies counted m) (map custom_due last) (standard_fit features bodies counted first last m n h short le) (customs_fit features last h.last_customs)) nothing_yet

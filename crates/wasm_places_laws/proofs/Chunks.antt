-- Lemmas: where the bodies stand of the sections that are due.
use Rattle.std.specs.Prelude.{ℕ, ◌+◌, ◌≡◌, ◌++◌, Bool, true, false, List, [], ◌∷◌, length, map, fold, Option, Some, None, refl}
use Rattle.std.specs.List.{filter_map}
use Rattle.std.proofs.Common.{ap, ◌∙◌}
use Rattle.wasm_features.specs.declared.WasmFeatures.{WasmFeatures}
use Rattle.wasm_operators.specs.Bytes.{unsigned_bytes}
use Rattle.wasm_grammar.specs.Modules.{Custom, Module}
use Rattle.wasm_grammar.specs.States.{Chunk, State, nothing_yet}
use Rattle.wasm_body_grammar.specs.Codes.{own_type}
use Rattle.wasm_sections.specs.TypeSection.{add_group}
use Rattle.wasm_sections.specs.Entities.{add_function, add_global, add_import, add_memory, add_table, add_tag}
use Rattle.wasm_sections.specs.Exports.{add_export}
use Rattle.wasm_sections.specs.Segments.{DataEntry, add_data, add_element}
use Rattle.wasm_sections.specs.Sections.{Section, CustomSection, TypeSection, ImportSection, FunctionSection, TableSection, MemorySection, TagSection, GlobalSection, ExportSection, StartSection, ElementSection, DataCountSection, CodeSection, DataSection, SectionEntry, behind_chunk, chunk_entry, chunk_of, next, put}
use Rattle.wasm_sections.specs.Modules.{state_of}
use Rattle.wasm_section_bytes.specs.Elsewhere.{elsewhere, fold_elsewhere, import_steady, table_steady}
use Rattle.wasm_section_bytes.specs.Files.{entry_bytes, entry_placed, file_placed, section_placed, sections_placed}
use Rattle.wasm_section_bytes.specs.Flags.{entry_of_element, entry_of_segment}
use Rattle.wasm_section_bytes.specs.Placed.{chunk_placed, chunks_at, list_placed, types_placed}
use Rattle.wasm_module_bytes.specs.Due.{export_from, group_from}
use Rattle.wasm_module_rules.specs.wasm_modules.Modules.{chunks_of}
use Rattle.wasm_ruled_modules.specs.Rules.{table_wide}
use Rattle.wasm_canonical.specs.Due.{chunk_due, code_if, count_if, custom_due, import_due, items_in, own_global, own_memory, own_table, own_tag, section_if, sections_due, standard_due, start_if}

-- adding leaves the bodies alone
kept : {A : Type 0} (add : State → A → State) → ((bodies : Option (List Chunk)) (start offset : ℕ) (s : State) (x : A) → add (elsewhere bodies start offset s) x ≡ elsewhere bodies start offset (add s x))
    → (s : State) (xs : List A) → (fold add s xs).bodies ≡ s.bodies
kept add steady s xs = ap (λ (t : State). t.bodies) (fold_elsewhere s.bodies s.code_start s.offset add (steady s.bodies s.code_start s.offset) s xs)

-- bodies that stand one behind another, each behind its size, the first size there
abbrev pub chunks_from : ℕ → List (List ℕ) → List Chunk
chunks_from at bodies = map chunk_of (list_placed behind_chunk chunk_entry chunk_placed at (map chunk_due bodies))

-- those of a code section, behind their count; none where there is no body
abbrev pub chunks_if : List (List ℕ) → Option (List Chunk)
chunks_if [] = None
chunks_if (b ∷ bodies) = Some (chunks_from (length (unsigned_bytes (length (b ∷ bodies)))) (b ∷ bodies))

pub chunks_are : (bodies : List (List ℕ)) → chunks_of (chunks_if bodies) ≡ chunks_from (length (unsigned_bytes (length bodies))) bodies
chunks_are [] = refl
chunks_are (b ∷ bodies) = refl

module _ (features : WasmFeatures) where
  -- ---- what a section leaves

  abbrev behind_section : Option (List Chunk) → Section → Option (List Chunk)
  behind_section o (CodeSection c) = Some (map chunk_of (chunks_at c))
  behind_section o x = o

  section_leaves : (r t : State) (end : ℕ) (x : Section) → (put t end (section_placed features r x)).bodies ≡ behind_section t.bodies x
  section_leaves r t end (CustomSection x) = refl
  section_leaves r t end (TypeSection x) = kept add_group (λ b c o s x. refl) t ((types_placed features).placed r x)
  section_leaves r t end (ImportSection x) = kept add_import import_steady t x
  section_leaves r t end (FunctionSection x) = kept add_function (λ b c o s x. refl) t x
  section_leaves r t end (TableSection x) = kept add_table table_steady t x
  section_leaves r t end (MemorySection x) = kept add_memory (λ b c o s x. refl) t x
  section_leaves r t end (TagSection x) = kept add_tag (λ b c o s x. refl) t x
  section_leaves r t end (GlobalSection x) = kept add_global (λ b c o s x. refl) t x
  section_leaves r t end (ExportSection x) = kept add_export (λ b c o s x. refl) t x
  section_leaves r t end (StartSection x) = refl
  section_leaves r t end (ElementSection x) = kept add_element (λ b c o s x. refl) t x
  section_leaves r t end (DataCountSection x) = refl
  section_leaves r t end (CodeSection x) = refl
  section_leaves r t end (DataSection x) = kept add_data (λ b c o s x. refl) t x

  abbrev behind_all : Option (List Chunk) → List SectionEntry → Option (List Chunk)
  behind_all o [] = o
  behind_all o (x ∷ xs) = behind_all (behind_section o x.1.1) xs

  sections_leave : (s t : State) (xs : List SectionEntry) → (fold next t (sections_placed features s t xs)).bodies ≡ behind_all t.bodies xs
  sections_leave s t [] = refl
  sections_leave s t (x ∷ xs) =
      sections_leave (next s x) (next t (entry_placed features s t.offset x)) xs
      ∙ ap (λ (o : Option (List Chunk)). behind_all o xs) (section_leaves s t (t.offset + length (entry_bytes features s x)) x.1.1)

  -- ---- lists of sections that leave the bodies alone

  abbrev Leave : List SectionEntry → Type 0
  Leave xs = (o : Option (List Chunk)) → behind_all o xs ≡ o

  joined : (o : Option (List Chunk)) (xs ys : List SectionEntry) → behind_all o (xs ++ ys) ≡ behind_all (behind_all o xs) ys
  joined o [] ys = refl
  joined o (x ∷ xs) ys = joined (behind_section o x.1.1) xs ys

  passes : (o p : Option (List Chunk)) (xs ys : List SectionEntry) → Leave xs → behind_all o ys ≡ p → behind_all o (xs ++ ys) ≡ p
  passes o p xs ys leave e = joined o xs ys ∙ ap (λ (q : Option (List Chunk)). behind_all q ys) (leave o) ∙ e

  leave_if : {A : Type 0} (into : List A → Section) (xs : List A) → ((o : Option (List Chunk)) (ys : List A) → behind_section o (into ys) ≡ o) → Leave (section_if into xs)
  leave_if into [] h o = refl
  leave_if into (x ∷ xs) h o = h o (x ∷ xs)

  leave_start : (n : Option ℕ) → Leave (start_if n)
  leave_start None o = refl
  leave_start (Some n) o = refl

  leave_count : (counted : Bool) (n : ℕ) → Leave (count_if counted n)
  leave_count false n o = refl
  leave_count true n o = refl

  leave_customs : (cs : List Custom) → Leave (map custom_due cs)
  leave_customs [] o = refl
  leave_customs (c ∷ cs) o = leave_customs cs o

  -- ---- the sections that are due

  code_only : (bodies : List (List ℕ)) → behind_all None (code_if bodies) ≡ chunks_if bodies
  code_only [] = refl
  code_only (b ∷ bodies) = refl

  code_last : (bodies : List (List ℕ)) (data_entries : List DataEntry) → behind_all None (code_if bodies ++ section_if DataSection data_entries) ≡ chunks_if bodies
  code_last bodies data_entries =
      joined None (code_if bodies) (section_if DataSection data_entries)
      ∙ leave_if DataSection data_entries (λ o ys. refl) (behind_all None (code_if bodies)) ∙ code_only bodies

  module _ (bodies : List (List ℕ)) (counted : Bool) (m : Module) where
    standard_leaves : behind_all None (standard_due bodies counted m) ≡ chunks_if bodies
    standard_leaves =
        let all = chunks_if bodies in
        passes None all (section_if TypeSection (map group_from m.groups)) _ (leave_if TypeSection (map group_from m.groups) (λ o ys. refl)) (
        passes None all (section_if ImportSection (map (import_due m) (items_in m.imports))) _ (leave_if ImportSection (map (import_due m) (items_in m.imports)) (λ o ys. refl)) (
        passes None all (section_if FunctionSection (filter_map own_type m.functions)) _ (leave_if FunctionSection (filter_map own_type m.functions) (λ o ys. refl)) (
        passes None all (section_if TableSection (filter_map own_table m.tables)) _ (leave_if TableSection (filter_map own_table m.tables) (λ o ys. refl)) (
        passes None all (section_if MemorySection (filter_map own_memory m.memories)) _ (leave_if MemorySection (filter_map own_memory m.memories) (λ o ys. refl)) (
        passes None all (section_if TagSection (filter_map own_tag m.tags)) _ (leave_if TagSection (filter_map own_tag m.tags) (λ o ys. refl)) (
        passes None all (section_if GlobalSection (filter_map own_global m.globals)) _ (leave_if GlobalSection (filter_map own_global m.globals) (λ o ys. refl)) (
        passes None all (section_if ExportSection (map export_from (items_in m.exports))) _ (leave_if ExportSection (map export_from (items_in m.exports)) (λ o ys. refl)) (
        passes None all (start_if m.start) _ (leave_start m.start) (
        passes None all (section_if ElementSection (map (entry_of_element (table_wide m.tables)) (items_in m.elements))) _
        (leave_if ElementSection (map (entry_of_element (table_wide m.tables)) (items_in m.elements)) (λ o ys. refl)) (
        passes None all (count_if counted (length m.segments)) _ (leave_count counted (length m.segments)) (
        code_last bodies (map entry_of_segment (items_in m.segments)))))))))))))

    due_leave : (first last : List Custom) → behind_all None (sections_due bodies counted first last m) ≡ chunks_if bodies
    due_leave first last =
        let standard = standard_due bodies counted m in
        let customs = map custom_due last in
        passes None (chunks_if bodies) (map custom_due first) (standard ++ customs) (leave_customs first)
        (joined None standard customs ∙ leave_customs last (behind_all None standard) ∙ standard_leaves)

    -- the bodies stand one behind another
    pub bodies_stand : (first last : List Custom) → (state_of (file_placed features (tt, sections_due bodies counted first last m))).bodies ≡ chunks_if bodies
    bodies_stand first last = sections_leave nothing_yet nothing_yet (sections_due bodies counted first last m) ∙ due_leave first last

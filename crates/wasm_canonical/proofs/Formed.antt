-- Lemmas: the sections that are due to a module that meets the rules are formed.
use Rattle.std.specs.Prelude.{ℕ, suc, ◌+◌, ◌==◌, ◌≡◌, Bool, true, false, List, [], ◌∷◌, ◌++◌, length, map, Option, Some, None, refl}
use Rattle.std.specs.List.{filter_map, fold}
use Rattle.std.proofs.Common.{ap, sym, ◌∙◌, subst, arith, eq-eqb}
use Rattle.std.proofs.lemmas.Bool.{le-leb}
use Rattle.std.proofs.lemmas.List.Sums.{fold-append}
use Rattle.wasm_features.specs.declared.WasmFeatures.{WasmFeatures}
use Rattle.wasm_formats.specs.Stops.{Count}
use Rattle.wasm_formats.specs.Wholes.{whole}
use Rattle.wasm_formats.specs.Lists.{EntryRules}
use Rattle.wasm_grammar.specs.Modules.{Custom, Module, Segment}
use Rattle.wasm_grammar.specs.States.{State, nothing_yet}
use Rattle.wasm_grammar.specs.Values.{must}
use Rattle.wasm_body_grammar.specs.Codes.{own_type}
use Rattle.wasm_sections.specs.TypeSection.{GroupEntry, add_group, group}
use Rattle.wasm_sections.specs.Segments.{DataEntry, add_data}
use Rattle.wasm_sections.specs.Sections.{ChunkEntry, CodeEntry, Section, CustomSection, TypeSection, ImportSection, FunctionSection, TableSection, MemorySection, TagSection, GlobalSection, ExportSection, StartSection, ElementSection, DataCountSection, CodeSection, DataSection, SectionEntry, behind_chunk, chunk_entry, code, data_test, next, order_test, own_functions}
use Rattle.wasm_sections.specs.Modules.{state_of}
use Rattle.wasm_section_bytes.specs.Placed.{chunk_placed, code_section_placed, group_at, list_placed, types_placed}
use Rattle.wasm_section_bytes.specs.Elsewhere.{elsewhere}
use Rattle.wasm_section_bytes.specs.Files.{IsElsewhere, entry_placed, next_elsewhere, section_placed, sections_placed}
use Rattle.wasm_section_bytes.specs.Flags.{IsNotDeclared, entry_of_element, entry_of_segment}
use Rattle.wasm_module_bytes.specs.Due.{export_from, group_from}
use Rattle.wasm_module_bytes.proofs.Rules.{groups_ruled}
use Rattle.wasm_module_rules.specs.Entries.{AllRuled}
use Rattle.wasm_module_spellings.specs.Spelled.{AreFormed, IsFormed, SectionFormed}
use Rattle.wasm_ruled_modules.specs.Rules.{bare_slot, table_wide}
use Rattle.wasm_canonical.specs.Due.{chunk_due, code_due, code_if, count_if, custom_due, entry, import_due, items_in, own_global, own_memory, own_table, own_tag, section_if, sections_due, standard_due, start_if}
use Rattle.wasm_canonical.specs.Dense.{AreThere, DueSectionsFill, IsDense, LeavesModule, brought, count_of}
use Rattle.wasm_canonical.specs.EntriesFormed.{DueEntriesAreFormed, EntriesFormed}
use Rattle.wasm_canonical.specs.Ordered.{AreOrdered, DueSectionsAreOrdered}
use Rattle.wasm_canonical.specs.Formed.{AreNotLong, DueSectionsAreFormed}

-- ---- places don't matter

module _ (features : WasmFeatures) where
  group_formed : (x : GroupEntry) → IsFormed (group features) x → IsFormed (group features) (group_at features x)
  group_formed x h =
      let s = h.0 in
      (elsewhere s.bodies s.code_start s.offset s, (groups_ruled features s.bodies s.code_start s.offset (x ∷ []) s s (h.1, tt)).0)

  groups_formed : (r : State) (xs : List GroupEntry) → AllRuled (IsFormed (group features)) xs → AllRuled (IsFormed (group features)) ((types_placed features).placed r xs)
  groups_formed r [] h = tt
  groups_formed r (x ∷ xs) h = (group_formed x h.0, groups_formed (add_group r (group_at features x)) xs h.1)

  chunks_ruled : (p q : ℕ) (xs : List ChunkEntry) → EntryRules behind_chunk chunk_entry p xs → EntryRules behind_chunk chunk_entry q (list_placed behind_chunk chunk_entry chunk_placed q xs)
  chunks_ruled p q [] h = tt
  chunks_ruled p q (x ∷ xs) h = (h.0, chunks_ruled (behind_chunk p x) (behind_chunk q (chunk_placed.placed q x)) xs h.1)

  code_formed : (s t : State) (c : CodeEntry) → IsElsewhere features s t → (whole (code s)).rules c → (whole (code t)).rules (code_section_placed.placed s c)
  code_formed s t c e h =
      let same : own_functions s ≡ own_functions t = sym (ap own_functions e) in
      ((tt, subst (λ (n : ℕ). must (c.0.1 == n) Count ≡ None) same h.0.1), chunks_ruled c.0.0 (code_section_placed.placed s c).0.0 c.1 h.1)

  section_formed : (s t : State) (x : Section) → IsElsewhere features s t → SectionFormed features s x → SectionFormed features t (section_placed features s x)
  section_formed s t (CustomSection x) e h = tt
  section_formed s t (TypeSection x) e h = groups_formed s x h
  section_formed s t (ImportSection x) e h = h
  section_formed s t (FunctionSection x) e h = tt
  section_formed s t (TableSection x) e h = h
  section_formed s t (MemorySection x) e h = h
  section_formed s t (TagSection x) e h = tt
  section_formed s t (GlobalSection x) e h = h
  section_formed s t (ExportSection x) e h = h
  section_formed s t (StartSection x) e h = tt
  section_formed s t (ElementSection x) e h = tt
  section_formed s t (DataCountSection x) e h = tt
  section_formed s t (CodeSection c) e h = code_formed s t c e h
  section_formed s t (DataSection xs) e h = subst (λ (o : Option ℕ). data_test o (length xs) ≡ None) (sym (ap (λ (u : State). u.data_count) e)) h

  pub placed_formed : (s t : State) (xs : List SectionEntry) → IsElsewhere features s t → AreFormed features s xs → AreFormed features t (sections_placed features s t xs)
  placed_formed s t [] e h = tt
  placed_formed s t (x ∷ xs) e h = (
    subst (λ (n : ℕ). order_test n x.1.0 ≡ None) (sym (ap (λ (u : State). u.last) e)) h.0,
    section_formed s t x.1.1 e h.1,
    placed_formed (next s x) (next t (entry_placed features s t.offset x)) xs (next_elsewhere features s t x e) h.2,
  )

  -- ---- sections, order aside

  abbrev pub AreWell : State → List SectionEntry → Type 0
  AreWell s [] = Unit {0}
  AreWell s (x ∷ xs) = SectionFormed features s x.1.1 × AreWell (next s x) xs

  well_ordered : (s : State) (xs : List SectionEntry) → AreOrdered s xs → AreWell s xs → AreFormed features s xs
  well_ordered s [] h k = tt
  well_ordered s (x ∷ xs) h k = (h.0, k.0, well_ordered (next s x) xs h.1 k.1)

  -- the state at the end has so many functions of its own, and this data count
  module _ (own : ℕ) (count : Option ℕ) where
    abbrev Ends : State → Type 0
    Ends s = (own_functions s ≡ own) × (s.data_count ≡ count)

    goes : (s : State) (xs rest : List SectionEntry) → AreWell s xs → ((s : State) → Ends (fold next s rest) → AreWell s rest) → Ends (fold next s (xs ++ rest)) → AreWell s (xs ++ rest)
    goes s [] rest h later ends = later s ends
    goes s (x ∷ xs) rest h later ends = (h.0, goes (next s x) xs rest h.1 later ends)

    then_well : (xs rest : List SectionEntry) → ((s : State) → AreWell s xs) → ((s : State) → Ends (fold next s rest) → AreWell s rest) → (s : State) → Ends (fold next s (xs ++ rest)) → AreWell s (xs ++ rest)
    then_well xs rest h later s ends = goes s xs rest (h s) later ends

    well_if : {A : Type 0} (into : List A → Section) (xs : List A) → ((s : State) → SectionFormed features s (into xs)) → (s : State) → AreWell s (section_if into xs)
    well_if into [] h s = tt
    well_if into (x ∷ xs) h s = (h s, tt)

    well_start : (o : Option ℕ) (s : State) → AreWell s (start_if o)
    well_start None s = tt
    well_start (Some n) s = (tt, tt)

    well_count : (counted : Bool) (n : ℕ) (s : State) → AreWell s (count_if counted n)
    well_count false n s = tt
    well_count true n s = (tt, tt)

    well_join : (s : State) (xs ys : List SectionEntry) → AreWell s xs → AreWell (fold next s xs) ys → AreWell s (xs ++ ys)
    well_join s [] ys h k = k
    well_join s (x ∷ xs) ys h k = (h.0, well_join (next s x) xs ys h.1 k)

    well_customs : (cs : List Custom) (s : State) → AreWell s (map custom_due cs)
    well_customs [] s = tt
    well_customs (c ∷ cs) s = (tt, well_customs cs (next s (custom_due c)))

    -- ---- sections that leave the functions and the count alone

    customs_keep : (cs : List Custom) (s : State) → (own_functions (fold next s (map custom_due cs)) ≡ own_functions s) × ((fold next s (map custom_due cs)).data_count ≡ s.data_count)
    customs_keep [] s = (refl, refl)
    customs_keep (c ∷ cs) s = customs_keep cs (next s (custom_due c))

    data_keep : (xs : List DataEntry) (s : State) → (own_functions (fold add_data s xs) ≡ own_functions s) × ((fold add_data s xs).data_count ≡ s.data_count)
    data_keep [] s = (refl, refl)
    data_keep (x ∷ xs) s = data_keep xs (add_data s x)

    same_test : (n : ℕ) → must (n == n) Count ≡ None
    same_test n = rw (eq-eqb n n refl) refl

    counted_test : (counted : Bool) (n : ℕ) → data_test (count_of counted n) n ≡ None
    counted_test false n = refl
    counted_test true n = same_test n

    data_well : (xs : List DataEntry) (s : State) → data_test count (length xs) ≡ None → Ends (fold next s (section_if DataSection xs)) → AreWell s (section_if DataSection xs)
    data_well [] s test ends = tt
    data_well (x ∷ xs) s test ends =
        let is : count ≡ s.data_count = sym ends.1 ∙ (data_keep xs (add_data s x)).1 in
        (subst (λ (o : Option ℕ). data_test o (suc (length xs)) ≡ None) is test, tt)

    data_same : (xs : List DataEntry) (s : State) → own_functions (fold next s (section_if DataSection xs)) ≡ own_functions s
    data_same [] s = refl
    data_same (x ∷ xs) s = (data_keep xs (add_data s x)).0

    bodies_ruled : (p : ℕ) (bodies : List (List ℕ)) → AreNotLong bodies → EntryRules behind_chunk chunk_entry p (map chunk_due bodies)
    bodies_ruled p [] h = tt
    bodies_ruled p (b ∷ bodies) h = (((tt, rw (le-leb (length b) 7654321 h.0) refl), tt), bodies_ruled (behind_chunk p (chunk_due b)) bodies h.1)

    code_well : (bodies : List (List ℕ)) (rest : List SectionEntry) (s : State) → AreNotLong bodies → own ≡ length bodies → ((s : State) → own_functions (fold next s rest) ≡ own_functions s)
        → ((s : State) → Ends (fold next s rest) → AreWell s rest) → Ends (fold next s (code_if bodies ++ rest)) → AreWell s (code_if bodies ++ rest)
    code_well [] rest s short n keeps later ends = later s ends
    code_well (b ∷ bodies) rest s short n keeps later ends =
        let behind = next s (entry (CodeSection (code_due (b ∷ bodies)))) in
        let is : length (b ∷ bodies) ≡ own_functions s = sym n ∙ sym ends.0 ∙ keeps behind in
        (((tt, subst (λ (k : ℕ). must (length (b ∷ bodies) == k) Count ≡ None) is (same_test (length (b ∷ bodies)))), bodies_ruled 0 (b ∷ bodies) short), later behind ends)

-- ---- all of them

there_count : {A : Type 0} (P : A → Type 0) (xs : List (Option A)) → AreThere P xs → length (items_in xs) ≡ length xs
there_count P [] h = refl
there_count P (None ∷ xs) h = absurd h
there_count P (Some x ∷ xs) h = ap (λ (n : ℕ). suc n) (there_count P xs h.1)

map_count : {A B : Type 0} (f : A → B) (xs : List A) → length (map f xs) ≡ length xs
map_count f [] = refl
map_count f (x ∷ xs) = ap (λ (n : ℕ). suc n) (map_count f xs)

module _ (features : WasmFeatures) (bodies : List (List ℕ)) (counted : Bool) (first last : List Custom) (m : Module) (dense : IsDense m) (formed : EntriesFormed features m) (short : AreNotLong bodies) where
  abbrev count : Option ℕ
  count = count_of counted (length m.segments)

  abbrev n : ℕ
  n = length bodies

  segments_test : data_test count (length (map entry_of_segment (items_in m.segments))) ≡ None
  segments_test =
      subst (λ (k : ℕ). data_test count k ≡ None) (sym (map_count entry_of_segment (items_in m.segments) ∙ there_count (λ (x : Segment). IsNotDeclared x.mode) m.segments dense.segments)) (counted_test features n count counted (length m.segments))

  standard_well : (s : State) → Ends features n count (fold next s (standard_due bodies counted m)) → AreWell features s (standard_due bodies counted m)
  standard_well =
      then_well features n count (section_if TypeSection (map group_from m.groups)) _ (well_if features n count TypeSection (map group_from m.groups) (λ s. formed.groups)) (
      then_well features n count (section_if ImportSection (map (import_due m) (items_in m.imports))) _ (well_if features n count ImportSection (map (import_due m) (items_in m.imports)) (λ s. formed.imports)) (
      then_well features n count (section_if FunctionSection (filter_map own_type m.functions)) _ (well_if features n count FunctionSection (filter_map own_type m.functions) (λ s. tt)) (
      then_well features n count (section_if TableSection (filter_map own_table m.tables)) _ (well_if features n count TableSection (filter_map own_table m.tables) (λ s. formed.tables)) (
      then_well features n count (section_if MemorySection (filter_map own_memory m.memories)) _ (well_if features n count MemorySection (filter_map own_memory m.memories) (λ s. formed.memories)) (
      then_well features n count (section_if TagSection (filter_map own_tag m.tags)) _ (well_if features n count TagSection (filter_map own_tag m.tags) (λ s. tt)) (
      then_well features n count (section_if GlobalSection (filter_map own_global m.globals)) _ (well_if features n count GlobalSection (filter_map own_global m.globals) (λ s. formed.globals)) (
      then_well features n count (section_if ExportSection (map export_from (items_in m.exports))) _ (well_if features n count ExportSection (map export_from (items_in m.exports)) (λ s. formed.exports)) (
      then_well features n count (start_if m.start) _ (well_start features n count m.start) (
      then_well features n count (section_if ElementSection (map (entry_of_element (table_wide m.tables)) (items_in m.elements))) _ (well_if features n count ElementSection (map (entry_of_element (table_wide m.tables)) (items_in m.elements)) (λ s. tt)) (
      then_well features n count (count_if counted (length m.segments)) _ (well_count features n count counted (length m.segments)) (
      λ s. code_well features n count bodies (section_if DataSection (map entry_of_segment (items_in m.segments))) s short refl (data_same features n count (map entry_of_segment (items_in m.segments)))
      (λ s. data_well features n count (map entry_of_segment (items_in m.segments)) s segments_test))))))))))))

  abbrev s1 : State
  s1 = fold next nothing_yet (map custom_due first)

  abbrev s14 : State
  s14 = fold next s1 (standard_due bodies counted m)

  state_is : state_of (tt, sections_due bodies counted first last m) ≡ fold next s14 (map custom_due last)
  state_is = fold-append next nothing_yet (map custom_due first) (standard_due bodies counted m ++ map custom_due last) ∙ fold-append next s1 (standard_due bodies counted m) (map custom_due last)

  ends : LeavesModule bodies counted first last m → length m.functions ≡ (brought m).functions + length bodies → Ends features n count s14
  ends leaves own =
      let keeps = customs_keep features n count last s14 in
      let final : State = state_of (tt, sections_due bodies counted first last m) in
      let functions : length final.filled.functions ≡ length m.functions = ap (λ (m : Module). length m.functions) leaves.filled ∙ map_count bare_slot m.functions in
      let imported : final.imported ≡ (brought m).functions = leaves.imported in
      let count_own : own_functions final ≡ length bodies = omega (arith, functions, imported, own) in
      (sym keeps.0 ∙ ap own_functions (sym state_is) ∙ count_own, sym keeps.1 ∙ ap (λ (s : State). s.data_count) (sym state_is) ∙ leaves.counted_is)

  all_well : LeavesModule bodies counted first last m → length m.functions ≡ (brought m).functions + length bodies → AreWell features nothing_yet (sections_due bodies counted first last m)
  all_well leaves own =
      well_join features n count nothing_yet (map custom_due first) (standard_due bodies counted m ++ map custom_due last) (well_customs features n count first nothing_yet)
      (well_join features n count s1 (standard_due bodies counted m) (map custom_due last) (standard_well s1 (ends leaves own)) (well_customs features n count last s14))

pub sections_formed : DueSectionsFill → DueEntriesAreFormed → DueSectionsAreOrdered → DueSectionsAreFormed
sections_formed fill entries ordered features bodies counted first last m dense ruled short own =
    placed_formed features nothing_yet nothing_yet (sections_due bodies counted first last m) refl
    (well_ordered features nothing_yet (sections_due bodies counted first last m) (ordered bodies counted first last m)
    (all_well features bodies counted first last m dense (entries features counted m dense ruled) short (fill bodies counted first last m dense) own))

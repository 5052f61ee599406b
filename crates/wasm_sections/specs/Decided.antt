-- Lemmas: what is refused in the sections of a file is so whatever follows, unless the file ends too early.
use Rattle.std.specs.Prelude.{ℕ, ◌<◌, ◌≡◌, ◌==◌, ◌&&◌, ◌⊎◌, nat_lt, nat_le, Bool, true, false, List, [], ◌∷◌, ◌++◌, length, Some, None, Err, if◌then◌else◌, refl}
use Rattle.std.proofs.Common.{ap, sym, ◌∙◌, subst, arith, inl, inr}
use Rattle.std.proofs.lemmas.List.{append_assoc, length-append}
use Rattle.wasm_features.specs.declared.WasmFeatures.{WasmFeatures}
use Rattle.wasm_types.specs.wasm_composite_types.wasm_reader.Vecs.{later_bytes}
use Rattle.wasm_grammar.specs.wasm_formats.Stops.{Trouble, Header, SectionOrder, Stop, stop, moved, can_end}
use Rattle.wasm_grammar.specs.wasm_formats.Formats.{Whole, Small}
use Rattle.wasm_grammar.specs.wasm_formats.Bytes.{byte}
use Rattle.wasm_grammar.specs.wasm_formats.Joined.{checked, after, built, tested_err}
use Rattle.wasm_grammar.specs.wasm_formats.Lists.{vec}
use Rattle.wasm_grammar.specs.wasm_formats.Wholes.{u32, whole, sized}
use Rattle.wasm_file_formats.specs.Counted.{counted}
use Rattle.wasm_file_formats.specs.Decided.{IsDecided, Stays, StaysSized, sized_stays, built_stays, stays_if, never_stays, behind_stays, among_decided, word_decided}
use Rattle.wasm_grammar.specs.Values.{must}
use Rattle.wasm_grammar.specs.States.{State, nothing_yet}
use Rattle.wasm_sections.specs.TypeSection.{group, add_group}
use Rattle.wasm_sections.specs.Entities.{import_entry, add_import, function_entry, add_function, table_entry, add_table, memory_entry, add_memory, tag_entry, add_tag, global_entry, add_global}
use Rattle.wasm_sections.specs.Exports.{export_entry, add_export, start_function}
use Rattle.wasm_sections.specs.Segments.{element_entry, add_element, data_entry, add_data}
use Rattle.wasm_sections.specs.Sections.{code, data_test, custom, CustomSection, TypeSection, ImportSection, FunctionSection, TableSection, MemorySection, TagSection, GlobalSection, ExportSection, StartSection, ElementSection, DataCountSection, CodeSection, DataSection, Section, custom_once, types_once, imports_once, functions_once, tables_once, memories_once, tags_once, globals_once, exports_once, start_once, elements_once, count_once, code_once, data_once, section, rank, order_test, section_entry, section_takes, next}
use Rattle.wasm_sections.specs.Modules.{magic}
use Rattle.wasm_sections.specs.Laws.{SectionIsCut, SectionsStopForGood}

-- contents behind their size
part_stays : {A : Type 0} (f : Whole A) (into : A → Section) (once : (x y : A) → into x ≡ into y → x ≡ y) → StaysSized (built (sized f) into once).parse
part_stays f into once = built_stays (sized f) into once (sized_stays f)

-- a section's contents
contents_stay : (features : WasmFeatures) (s : State) (id : ℕ) → StaysSized (section features s id).parse
contents_stay features s id =
    stays_if (id == 0) (part_stays custom CustomSection custom_once)
    (stays_if (id == 1) (part_stays (whole (vec add_group (group features) s)) TypeSection types_once)
    (stays_if (id == 2) (part_stays (whole (vec add_import (import_entry features) s)) ImportSection imports_once)
    (stays_if (id == 3) (part_stays (whole (vec add_function function_entry s)) FunctionSection functions_once)
    (stays_if (id == 4) (part_stays (whole (vec add_table (table_entry features) s)) TableSection tables_once)
    (stays_if (id == 5) (part_stays (whole (vec add_memory memory_entry s)) MemorySection memories_once)
    (stays_if (id == 13) (part_stays (whole (vec add_tag tag_entry s)) TagSection tags_once)
    (stays_if (id == 6) (part_stays (whole (vec add_global (global_entry features) s)) GlobalSection globals_once)
    (stays_if (id == 7) (part_stays (whole (vec add_export export_entry s)) ExportSection exports_once)
    (stays_if (id == 8) (part_stays (whole (start_function s)) StartSection start_once)
    (stays_if (id == 9) (part_stays (whole (vec add_element (element_entry features) s)) ElementSection elements_once)
    (stays_if (id == 12) (part_stays (whole u32) DataCountSection count_once)
    (stays_if (id == 10) (part_stays (whole (code s)) CodeSection code_once)
    (stays_if (id == 11) (part_stays (whole (counted add_data (data_entry features) (data_test s.data_count) s)) DataSection data_once)
    (never_stays {A = Section} SectionOrder refl))))))))))))))

some_is : (t u : Trouble) → Some t ≡ Some u → t ≡ u
some_is t u e = cc

order_ends : (c d : Bool) (t : Trouble) → (if c then None else must d SectionOrder) ≡ Some t → can_end t ≡ false
order_ends true d t e = absurd cc
order_ends false true t e = absurd cc
order_ends false false t e = subst (λ (t : Trouble). can_end t ≡ false) (some_is SectionOrder t e) refl

-- an id that may not stand there
id_stays : (last : ℕ) (bytes : List ℕ) (s : Stop) → 0 < length bytes → Small bytes → (checked byte (order_test last)).parse bytes ≡ Err s → Stays (checked byte (order_test last)).parse bytes s
id_stays last [] s some small e = absurd (omega (arith, some))
id_stays last (b ∷ bytes) s some small e =
    let t = tested_err (order_test last b) (length (b ∷ bytes)) (b, bytes) s e in
    let ends = subst (λ (s : Stop). can_end s.trouble ≡ false) (sym t.2) (order_ends (b == 0) (nat_le b 13 && nat_lt last (rank b)) t.0 t.1) in
    λ more. (checked byte (order_test last)).final (b ∷ bytes) more s small e ends

section_decided : (features : WasmFeatures) (s : State) (bytes : List ℕ) (e : Stop) → 0 < length bytes → Small bytes → (section_entry features s).stops bytes e
    → SectionIsCut s bytes ⊎ IsDecided (section_entry features s).stops bytes e
section_decided features s bytes e some small h =
    let id = checked byte (order_test s.last) in
    elim (behind_stays id (λ n. section features s n) bytes e small (λ p. id_stays s.last bytes e some small p) (λ n. contents_stay features s n) ((after id (λ n. section features s n)).tells bytes e h)) [
      | inl cut ↦ inl cut
      | inr stays ↦ inr (λ more all. (after id (λ n. section features s n)).told (bytes ++ more) (moved (length more) e) all (stays more))
    ]

pub sections_stop_for_good : SectionsStopForGood
sections_stop_for_good features bytes e small (inr h) = inl (inr (inr (h.0, h.1, h.2)))
sections_stop_for_good features bytes e small (inl (inl h)) = elim (word_decided magic bytes h.0) [
  | inl cut ↦ inl (inl cut)
  | inr other ↦ inr (λ more all. inl (inl ((λ later p. other more later p), ap (λ (s : Stop). moved (length more) s) h.1 ∙ ap (λ (n : ℕ). stop Header n) (sym (length-append bytes more)))))
]
sections_stop_for_good features bytes e small (inl (inr h)) =
    let stands = h.2 in
    elim (among_decided next (section_entry features) (section_takes features) SectionIsCut (section_decided features) nothing_yet h.1 e (later_bytes stands.0 h.1 (subst Small stands.1 small)) h.3) [
      | inl cut ↦ inl (inr (inl (h.0, h.1, stands, cut)))
      | inr decided ↦ inr (λ more all.
          let whole : bytes ++ more ≡ stands.0 ++ (h.1 ++ more) = ap (λ (l : List ℕ). l ++ more) stands.1 ∙ append_assoc stands.0 h.1 more in
          inl (inr (h.0, h.1 ++ more, (stands.0, whole, stands.2, stands.3), decided more (later_bytes stands.0 (h.1 ++ more) (subst Small whole all)))))
    ]

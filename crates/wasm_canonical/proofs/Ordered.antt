-- Lemmas: sections that are due stand in their order.
use Rattle.std.specs.Prelude.{ℕ, ◌≡◌, ◌<◌, ◌≤◌, Bool, true, false, List, [], ◌∷◌, ◌++◌, length, map, Option, Some, None, refl}
use Rattle.std.specs.List.{filter_map, fold}
use Rattle.std.proofs.Common.{arith}
use Rattle.std.proofs.lemmas.Bool.{lt-ltb}
use Rattle.wasm_grammar.specs.Modules.{Custom, Module}
use Rattle.wasm_grammar.specs.States.{State, nothing_yet}
use Rattle.wasm_body_grammar.specs.Codes.{own_type}
use Rattle.wasm_ruled_modules.specs.Rules.{table_wide}
use Rattle.wasm_sections.specs.Sections.{Section, SectionEntry, TypeSection, ImportSection, FunctionSection, TableSection, MemorySection, TagSection, GlobalSection, ExportSection, ElementSection, DataSection, id_of, next, order_test}
use Rattle.wasm_section_bytes.specs.Flags.{entry_of_element, entry_of_segment}
use Rattle.wasm_module_bytes.specs.Due.{export_from, group_from}
use Rattle.wasm_canonical.specs.Due.{code_if, count_if, custom_due, entry, import_due, items_in, own_global, own_memory, own_table, own_tag, section_if, standard_due, start_if}
use Rattle.wasm_canonical.specs.Ordered.{AreOrdered, DueSectionsAreOrdered}

ordered_join : (s : State) (xs ys : List SectionEntry) → AreOrdered s xs → AreOrdered (fold next s xs) ys → AreOrdered s (xs ++ ys)
ordered_join s [] ys h k = k
ordered_join s (x ∷ xs) ys h k = (h.0, ordered_join (next s x) xs ys h.1 k)

customs_ordered : (s : State) (cs : List Custom) → AreOrdered s (map custom_due cs)
customs_ordered s [] = tt
customs_ordered s (c ∷ cs) = (refl, customs_ordered (next s (custom_due c)) cs)

customs_leave : (s : State) (cs : List Custom) → (fold next s (map custom_due cs)).last ≡ s.last
customs_leave s [] = refl
customs_leave s (c ∷ cs) = customs_leave (next s (custom_due c)) cs

-- a list's section, and what may stand behind it
module _ {A : Type 0} (into : List A → Section) (rank : ℕ) (order : (s : State) (xs : List A) → s.last < rank → order_test s.last (id_of (into xs)) ≡ None) (after : (s : State) (xs : List A) → (next s (entry (into xs))).last ≡ rank) where
  then_if : (s : State) (xs : List A) (rest : List SectionEntry) → s.last < rank → ((t : State) → t.last ≤ rank → AreOrdered t rest) → AreOrdered s (section_if into xs ++ rest)
  then_if s [] rest lt later = later s (omega (arith, lt))
  then_if s (x ∷ xs) rest lt later = (order s (x ∷ xs) lt, later (next s (entry (into (x ∷ xs)))) (let e = after s (x ∷ xs) in omega (arith, e)))

then_start : (s : State) (o : Option ℕ) (rest : List SectionEntry) → s.last < 9 → ((t : State) → t.last ≤ 9 → AreOrdered t rest) → AreOrdered s (start_if o ++ rest)
then_start s None rest lt later = later s (omega (arith, lt))
then_start s (Some n) rest lt later = (rw (lt-ltb s.last 9 lt) refl, later _ (omega arith))

then_count : (s : State) (counted : Bool) (n : ℕ) (rest : List SectionEntry) → s.last < 11 → ((t : State) → t.last ≤ 11 → AreOrdered t rest) → AreOrdered s (count_if counted n ++ rest)
then_count s false n rest lt later = later s (omega (arith, lt))
then_count s true n rest lt later = (rw (lt-ltb s.last 11 lt) refl, later _ (omega arith))

then_code : (s : State) (bodies : List (List ℕ)) (rest : List SectionEntry) → s.last < 12 → ((t : State) → t.last ≤ 12 → AreOrdered t rest) → AreOrdered s (code_if bodies ++ rest)
then_code s [] rest lt later = later s (omega (arith, lt))
then_code s (b ∷ bodies) rest lt later = (rw (lt-ltb s.last 12 lt) refl, later _ (omega arith))

last_if : (s : State) (xs : List _) → s.last < 13 → AreOrdered s (section_if DataSection xs)
last_if s [] lt = tt
last_if s (x ∷ xs) lt = (rw (lt-ltb s.last 13 lt) refl, tt)

standard_ordered : (bodies : List (List ℕ)) (counted : Bool) (m : Module) (s : State) → s.last ≡ 0 → AreOrdered s (standard_due bodies counted m)
standard_ordered bodies counted m s none =
    then_if TypeSection 1 (λ s xs lt. rw (lt-ltb s.last 1 lt) refl) (λ s xs. refl) s (map group_from m.groups) _ (omega (arith, none)) (λ t le.
    then_if ImportSection 2 (λ s xs lt. rw (lt-ltb s.last 2 lt) refl) (λ s xs. refl) t (map (import_due m) (items_in m.imports)) _ (omega (arith, le)) (λ t le.
    then_if FunctionSection 3 (λ s xs lt. rw (lt-ltb s.last 3 lt) refl) (λ s xs. refl) t (filter_map own_type m.functions) _ (omega (arith, le)) (λ t le.
    then_if TableSection 4 (λ s xs lt. rw (lt-ltb s.last 4 lt) refl) (λ s xs. refl) t (filter_map own_table m.tables) _ (omega (arith, le)) (λ t le.
    then_if MemorySection 5 (λ s xs lt. rw (lt-ltb s.last 5 lt) refl) (λ s xs. refl) t (filter_map own_memory m.memories) _ (omega (arith, le)) (λ t le.
    then_if TagSection 6 (λ s xs lt. rw (lt-ltb s.last 6 lt) refl) (λ s xs. refl) t (filter_map own_tag m.tags) _ (omega (arith, le)) (λ t le.
    then_if GlobalSection 7 (λ s xs lt. rw (lt-ltb s.last 7 lt) refl) (λ s xs. refl) t (filter_map own_global m.globals) _ (omega (arith, le)) (λ t le.
    then_if ExportSection 8 (λ s xs lt. rw (lt-ltb s.last 8 lt) refl) (λ s xs. refl) t (map export_from (items_in m.exports)) _ (omega (arith, le)) (λ t le.
    then_start t m.start _ (omega (arith, le)) (λ t le.
    then_if ElementSection 10 (λ s xs lt. rw (lt-ltb s.last 10 lt) refl) (λ s xs. refl) t (map (entry_of_element (table_wide m.tables)) (items_in m.elements)) _ (omega (arith, le)) (λ t le.
    then_count t counted (length m.segments) _ (omega (arith, le)) (λ t le.
    then_code t bodies _ (omega (arith, le)) (λ t le. last_if t (map entry_of_segment (items_in m.segments)) (omega (arith, le))))))))))))))

pub sections_ordered : DueSectionsAreOrdered
sections_ordered bodies counted first last m =
    let s : State = fold next nothing_yet (map custom_due first) in
    let standard = standard_due bodies counted m in
    ordered_join nothing_yet (map custom_due first) (standard ++ map custom_due last) (customs_ordered nothing_yet first)
    (ordered_join s standard (map custom_due last) (standard_ordered bodies counted m s (customs_leave nothing_yet first)) (customs_ordered (fold next s standard) last))

-- Lemmas: the standard sections of a part, code aside, are what is due.
use Rattle.std.specs.Prelude.{ℕ, zero, suc, ◌≡◌, ◌||◌, Bool, List, [], ◌∷◌, ◌++◌, length, map, Option, Some, None, IsSome, slice_index_or, refl}
use Rattle.std.specs.List.{AllByRecursion, cons_option, filter_map, list_any}
use Rattle.std.specs.Option.{option_map}
use Rattle.std.proofs.Common.{ap, sym, ◌∙◌}
use Rattle.std.proofs.lemmas.List.{append_assoc, append-nil}
use Rattle.wasm_features.specs.declared.WasmFeatures.{WasmFeatures}
use Rattle.wasm_formats.specs.declared.fault.Space.{Space}
use Rattle.wasm_formats.specs.declared.fault.Space.TheVariants as spaces
use Rattle.wasm_operators.specs.Items.{Functions, DataSegments}
use Rattle.wasm_grammar.specs.Modules.{Origin, Imported, Own, Placed, Body, Function, Element, Segment, Import, Export, Module}
use Rattle.wasm_grammar.specs.States.{nothing_yet}
use Rattle.wasm_body_grammar.specs.Codes.{own_type, type_if_own}
use Rattle.wasm_sections.specs.Entities.{Entity, ImportEntry}
use Rattle.wasm_sections.specs.Sections.{TypeSection, ImportSection, FunctionSection, TableSection, MemorySection, TagSection, GlobalSection, ExportSection, ElementSection, DataSection, SectionEntry}
use Rattle.wasm_section_bytes.specs.Files.{entry_bytes}
use Rattle.wasm_section_bytes.specs.Flags.{entry_of_element, entry_of_segment}
use Rattle.wasm_ruled_modules.specs.Rules.{table_wide}
use Rattle.wasm_module_bytes.specs.Bytes.{origin_unplaced, slot_unplaced, unplaced, without_places}
use Rattle.wasm_module_bytes.specs.Due.{export_from, group_from}
use Rattle.wasm_canonical.specs.Due.{body_names_segment, code_if, count_if, counts_data, entity_due, function_due, import_due, is_passive, items_in, names_segment, own_global, own_memory, own_table, own_tag, section_if, start_if}
use Rattle.wasm_part.specs.Part.{Plan, declaring, part, picked, renumbered_element, renumbered_segment}
use Rattle.walrus_pairing.specs.Looks.{Look}
use Rattle.walrus_emit_parts.specs.Due.{Due}
use Rattle.walrus_emit_due.specs.DataCount.{data_count}
use Rattle.walrus_emit_due.specs.Elements.{elements}
use Rattle.walrus_emit_due.specs.FunctionTypes.{function_types}
use Rattle.walrus_emit_due.specs.Imports.{imports}
use Rattle.walrus_emit_due.specs.Items.{exports, globals, memories, segments, tables, tags}
use Rattle.walrus_emit_due.specs.Slots.{live_at}
use Rattle.walrus_emit_due.specs.Starts.{start}
use Rattle.walrus_due_laws.specs.DataCounts.{is_counted}
use Rattle.walrus_due_laws.specs.Listed.{OwnStay}
use Rattle.walrus_due_laws.specs.Spelled.{SpelledAs, in_slots, spelled}
use Rattle.walrus_due_laws.specs.Standard.{PartsAreSpelled, ServesBy, StandardIsAround, before_code, names_segments}
use Rattle.walrus_due_laws.proofs.Parts.{both, turned}
use Rattle.walrus_due_laws.proofs.Imports.{imports_spelled}
use Rattle.walrus_due_laws.proofs.FunctionTypes.{function_types_spelled}
use Rattle.walrus_due_laws.proofs.Tables.{tables_spelled}
use Rattle.walrus_due_laws.proofs.Memories.{memories_spelled}
use Rattle.walrus_due_laws.proofs.Tags.{tags_spelled}
use Rattle.walrus_due_laws.proofs.Globals.{globals_spelled}
use Rattle.walrus_due_laws.proofs.Exports.{exports_spelled}
use Rattle.walrus_due_laws.proofs.Starts.{start_spelled}
use Rattle.walrus_due_laws.proofs.Elements.{elements_spelled}
use Rattle.walrus_due_laws.proofs.DataCounts.{data_count_spelled}
use Rattle.walrus_due_laws.proofs.Segments.{segments_spelled}
use Rattle.walrus_due_laws.proofs.Listed.{own_items_stay, parts_serve}

-- ---- the sections

module _ (n : Module) where
  abbrev type_list : List SectionEntry
  type_list = section_if TypeSection (map group_from n.groups)

  abbrev import_list : List SectionEntry
  import_list = section_if ImportSection (map (import_due n) (items_in n.imports))

  abbrev function_list : List SectionEntry
  function_list = section_if FunctionSection (filter_map own_type n.functions)

  abbrev table_list : List SectionEntry
  table_list = section_if TableSection (filter_map own_table n.tables)

  abbrev memory_list : List SectionEntry
  memory_list = section_if MemorySection (filter_map own_memory n.memories)

  abbrev tag_list : List SectionEntry
  tag_list = section_if TagSection (filter_map own_tag n.tags)

  abbrev global_list : List SectionEntry
  global_list = section_if GlobalSection (filter_map own_global n.globals)

  abbrev export_list : List SectionEntry
  export_list = section_if ExportSection (map export_from (items_in n.exports))

  abbrev element_list : List SectionEntry
  element_list = section_if ElementSection (map (entry_of_element (table_wide n.tables)) (items_in n.elements))

  abbrev data_list : List SectionEntry
  data_list = section_if DataSection (map entry_of_segment (items_in n.segments))

  abbrev count_list : List SectionEntry
  count_list = count_if (counts_data n) (length n.segments)

-- ---- sections that are joined

spelled_join : (features : WasmFeatures) (xs ys : List SectionEntry) → spelled features (xs ++ ys) ≡ spelled features xs ++ spelled features ys
spelled_join features [] ys = refl
spelled_join features (x ∷ xs) ys =
    let front = entry_bytes features nothing_yet x in
    ap (λ (l : List ℕ). front ++ l) (spelled_join features xs ys) ∙ sym (append_assoc front (spelled features xs) (spelled features ys))

pub joined : (features : WasmFeatures) (a b : Due) (xs ys : List SectionEntry) → SpelledAs a (spelled features xs) → SpelledAs b (spelled features ys) → SpelledAs (a ++ b) (spelled features (xs ++ ys))
joined features a b xs ys f g =
    turned (a ++ b) (spelled features xs ++ spelled features ys) (spelled features (xs ++ ys)) (sym (spelled_join features xs ys)) (both a b (spelled features xs) (spelled features ys) f g)

-- ---- all standard sections

-- three of the first part, five of the second, three of the third
regrouped : (a b c d e f g h i j k rest : List SectionEntry)
    → a ++ (b ++ (c ++ (d ++ (e ++ (f ++ (g ++ (h ++ (i ++ (j ++ (k ++ rest))))))))))
    ≡ ((a ++ (b ++ c)) ++ ((d ++ (e ++ (f ++ (g ++ h)))) ++ (i ++ (j ++ k)))) ++ rest
regrouped a b c d e f g h i j k rest = sym (simp append_assoc)

-- ---- places

slot_at : (fs : List (Option Function)) (n : ℕ) → slice_index_or (map slot_unplaced fs) n None ≡ slot_unplaced (slice_index_or fs n None)
slot_at [] n = refl
slot_at (f ∷ fs) zero = refl
slot_at (f ∷ fs) (suc n) = slot_at fs n

due_same : (o : Option Function) → function_due (slot_unplaced o) ≡ function_due o
due_same None = refl
due_same (Some f) = refl

module _ (n : Module) where
  entity_same : (space : Space) (k : ℕ) → entity_due (without_places n) space k ≡ entity_due n space k
  entity_same spaces.Function k = ap function_due (slot_at n.functions k) ∙ due_same (slice_index_or n.functions k None)
  entity_same spaces.Table k = refl
  entity_same spaces.Memory k = refl
  entity_same spaces.Global k = refl
  entity_same spaces.Tag k = refl
  entity_same spaces.«Type» k = refl
  entity_same spaces.Element k = refl
  entity_same spaces.Data k = refl
  entity_same spaces.Local k = refl
  entity_same spaces.Label k = refl

  abbrev with_entity : Import → Entity → ImportEntry
  with_entity i e = (i.space_name, (i.name, ((import_due n i).1.1.0, e)))

  imports_same : (xs : List Import) → map (import_due (without_places n)) xs ≡ map (import_due n) xs
  imports_same [] = refl
  imports_same (i ∷ xs) = λ at. with_entity i (entity_same i.item.space i.item.number at) ∷ imports_same xs at

types_same : (fs : List (Option Function)) → filter_map own_type (map slot_unplaced fs) ≡ filter_map own_type fs
types_same [] = refl
types_same (f ∷ fs) = λ at. cons_option (one f at) (types_same fs at)
  where
    by_origin : (ty : ℕ) (o : Origin Body) → type_if_own ty (origin_unplaced o) ≡ type_if_own ty o
    by_origin ty (Imported n) = refl
    by_origin ty (Own x) = refl

    one : (o : Option Function) → own_type (slot_unplaced o) ≡ own_type o
    one None = refl
    one (Some g) = by_origin g.ty g.origin

ops_name : (ps : List Placed) → list_any names_segment (map unplaced ps) ≡ list_any names_segment ps
ops_name [] = refl
ops_name (p ∷ ps) = ap (λ (b : Bool). names_segment p || b) (ops_name ps)

origin_names : (o : Origin Body) → body_names_segment (origin_unplaced o) ≡ body_names_segment o
origin_names (Imported n) = refl
origin_names (Own x) = ops_name x.operators

bodies_name : (fs : List (Option Function)) → list_any (λ (f : Function). body_names_segment f.origin) (items_in (map slot_unplaced fs)) ≡ list_any (λ (f : Function). body_names_segment f.origin) (items_in fs)
bodies_name [] = refl
bodies_name (None ∷ fs) = bodies_name fs
bodies_name (Some f ∷ fs) = λ at. origin_names f.origin at || bodies_name fs at

count_same : (n : Module) → counts_data (without_places n) ≡ counts_data n
count_same n = ap (λ (b : Bool). list_any (λ (x : Segment). is_passive x.mode) (items_in n.segments) || b) (bodies_name n.functions)

-- what places could show in
abbrev before_by : Module → List ImportEntry → List ℕ → Bool → List SectionEntry
before_by n imports functions counted =
    (section_if TypeSection (map group_from n.groups) ++ (section_if ImportSection imports ++ section_if FunctionSection functions))
    ++ ((section_if TableSection (filter_map own_table n.tables)
    ++ (section_if MemorySection (filter_map own_memory n.memories)
    ++ (section_if TagSection (filter_map own_tag n.tags)
    ++ (section_if GlobalSection (filter_map own_global n.globals) ++ section_if ExportSection (map export_from (items_in n.exports))))))
    ++ (start_if n.start
    ++ (section_if ElementSection (map (entry_of_element (table_wide n.tables)) (items_in n.elements)) ++ count_if counted (length n.segments))))

unplaced_same : (n : Module) → before_code (without_places n) ≡ before_code n
unplaced_same n =
    ap (λ (l : List ImportEntry). before_by n l (filter_map own_type (without_places n).functions) (counts_data (without_places n))) (imports_same n (items_in n.imports))
    ∙ ap (λ (l : List ℕ). before_by n (map (import_due n) (items_in n.imports)) l (counts_data (without_places n))) (types_same n.functions)
    ∙ ap (λ (b : Bool). before_by n (map (import_due n) (items_in n.imports)) (filter_map own_type n.functions) b) (count_same n)

pub standard_around : StandardIsAround
standard_around = record {
  standard = λ bodies n. regrouped (type_list n) (import_list n) (function_list n) (table_list n) (memory_list n) (tag_list n) (global_list n) (export_list n) (start_if n.start) (element_list n)
      (count_list n) (code_if bodies ++ data_list n);
  unplaced = unplaced_same;
}

-- ---- a part

-- slots that are picked where something lives are filled
filled_count : {A : Type 0} (f : A → A) (xs : List (Option A)) (ns : List ℕ) → AllByRecursion (λ (n : ℕ). IsSome (live_at xs n)) ns → length (picked f ns xs) ≡ length (items_in (picked f ns xs))
filled_count f xs [] h = refl
filled_count {A} f xs (n ∷ ns) h = go (live_at xs n) h.0 (filled_count f xs ns h.1)
  where
    go : (o : Option A) → IsSome o → length (picked f ns xs) ≡ length (items_in (picked f ns xs)) → length (option_map f o ∷ picked f ns xs) ≡ length (items_in (option_map f o ∷ picked f ns xs))
    go None some rest = absurd cc
    go (Some x) some rest = ap (λ (n : ℕ). suc n) rest

module _ (features : WasmFeatures) (look : Look) (p : Plan) (m : Module) (serves : ServesBy look p m) where
  abbrev n : Module
  n = part p m

  stay : OwnStay p m (serves.order.own Functions)
  stay = own_items_stay p m serves.order serves.linked serves.lives serves.exports

  -- a list of entries in place of another
  in_place : {A : Type 0} (due : Due) (into : List A → List SectionEntry) (xs ys : List A) → ys ≡ xs → SpelledAs due (spelled features (into xs)) → SpelledAs due (spelled features (into ys))
  in_place {A} due into xs ys same f = turned due (spelled features (into xs)) (spelled features (into ys)) (ap (λ (l : List A). spelled features (into l)) (sym same)) f

  imports_as : SpelledAs (imports look m) (spelled features (import_list n))
  imports_as = in_place (imports look m) (λ (l : List Import). section_if ImportSection (map (import_due n) l)) _ (items_in n.imports) stay.imports
      (imports_spelled features p.renames p.brings look m n serves.follows (parts_serve p m serves.linked serves.lives).brought)

  functions_as : SpelledAs (function_types look m.functions (serves.order.own Functions)) (spelled features (function_list n))
  functions_as = in_place (function_types look m.functions (serves.order.own Functions)) (section_if FunctionSection) _ (filter_map own_type n.functions) stay.functions
      (function_types_spelled features p.renames p.brings look m.functions (serves.order.own Functions) serves.follows serves.bodies)

  tables_as : SpelledAs (tables look m.tables) (spelled features (table_list n))
  tables_as = in_place (tables look m.tables) (section_if TableSection) _ (filter_map own_table n.tables) stay.tables (tables_spelled features p.renames p.brings look m.tables serves.follows)

  memories_as : SpelledAs (memories m.memories) (spelled features (memory_list n))
  memories_as = in_place (memories m.memories) (section_if MemorySection) _ (filter_map own_memory n.memories) stay.memories (memories_spelled features p.renames p.brings m.memories)

  tags_as : SpelledAs (tags look m.tags) (spelled features (tag_list n))
  tags_as = in_place (tags look m.tags) (section_if TagSection) _ (filter_map own_tag n.tags) stay.tags (tags_spelled features p.renames p.brings look m.tags serves.follows)

  globals_as : SpelledAs (globals look m.globals) (spelled features (global_list n))
  globals_as = in_place (globals look m.globals) (section_if GlobalSection) _ (filter_map own_global n.globals) stay.globals (globals_spelled features p.renames p.brings look m.globals serves.follows)

  exports_as : SpelledAs (exports look m.exports) (spelled features (export_list n))
  exports_as = in_place (exports look m.exports) (λ (l : List Export). section_if ExportSection (map export_from l)) _ (items_in n.exports) stay.exports
      (exports_spelled features p.renames look m.exports serves.follows)

  elements_same : items_in n.elements ≡ items_in (in_slots (renumbered_element p.renames) m.elements)
  elements_same =
      let olds = items_in (in_slots (renumbered_element p.renames) m.elements) in
      stay.elements ∙ ap (λ (l : List (List ℕ)). olds ++ map (declaring p.renames) l) serves.declared ∙ append-nil olds

  elements_as : SpelledAs (elements look m.tables m.elements) (spelled features (element_list n))
  elements_as = in_place (elements look m.tables m.elements) (λ (l : List Element). section_if ElementSection (map (entry_of_element (table_wide n.tables)) l)) _ (items_in n.elements) elements_same
      (elements_spelled features p.renames look m.tables n.tables m.elements serves.follows ((parts_serve p m serves.linked serves.lives).first look serves.follows serves.numbered))

  segments_as : SpelledAs (segments look m.segments) (spelled features (data_list n))
  segments_as = in_place (segments look m.segments) (λ (l : List Segment). section_if DataSection (map entry_of_segment l)) _ (items_in n.segments) stay.segments
      (segments_spelled features p.renames look m.segments serves.follows)

  count_as : (named : Bool) → named ≡ names_segments n → SpelledAs (data_count named m.segments) (spelled features (count_list n))
  count_as named same =
      let olds = items_in (in_slots (renumbered_segment p.renames) m.segments) in
      let by = λ (xs : List Segment) (named : Bool) (count : ℕ). spelled features (count_if (is_counted xs named) count) in
      turned (data_count named m.segments) (by olds named (length olds)) (by (items_in n.segments) (names_segments n) (length n.segments))
      (ap (λ (xs : List Segment). by xs named (length xs)) (sym stay.segments)
      ∙ ap (λ (b : Bool). by (items_in n.segments) b (length (items_in n.segments))) same
      ∙ ap (λ (k : ℕ). by (items_in n.segments) (names_segments n) k) (sym (filled_count (renumbered_segment p.renames) m.segments (p.listed DataSegments) serves.segments)))
      (data_count_spelled features p.renames named m.segments)

pub parts_spelled : PartsAreSpelled
parts_spelled features look p m serves types named typed same =
    let f = features in
    let n = part p m in
    let own = serves.order.own Functions in
    let globals_on = joined f (globals look m.globals) (exports look m.exports) (global_list n) (export_list n) (globals_as f look p m serves) (exports_as f look p m serves) in
    let tags_on = joined f (tags look m.tags) (globals look m.globals ++ exports look m.exports) (tag_list n) (global_list n ++ export_list n) (tags_as f look p m serves) globals_on in
    let memories_on =
    joined f (memories m.memories) (tags look m.tags ++ (globals look m.globals ++ exports look m.exports)) (memory_list n) (tag_list n ++ (global_list n ++ export_list n)) (memories_as f look p m serves) tags_on in
    let items_due = tables look m.tables ++ (memories m.memories ++ (tags look m.tags ++ (globals look m.globals ++ exports look m.exports))) in
    let items = table_list n ++ (memory_list n ++ (tag_list n ++ (global_list n ++ export_list n))) in
    let items_on =
    joined f (tables look m.tables) (memories m.memories ++ (tags look m.tags ++ (globals look m.globals ++ exports look m.exports))) (table_list n) (memory_list n ++ (tag_list n ++ (global_list n ++ export_list n)))
    (tables_as f look p m serves) memories_on in
    let elements_on =
    joined f (elements look m.tables m.elements) (data_count named m.segments) (element_list n) (count_list n) (elements_as f look p m serves) (count_as f look p m serves named same) in
    let uses_due = start look m.start ++ (elements look m.tables m.elements ++ data_count named m.segments) in
    let uses = start_if n.start ++ (element_list n ++ count_list n) in
    let uses_on =
    joined f (start look m.start) (elements look m.tables m.elements ++ data_count named m.segments) (start_if n.start) (element_list n ++ count_list n)
    (start_spelled f p.renames look m.start serves.follows) elements_on in
    let imports_on =
    joined f (imports look m) (function_types look m.functions own) (import_list n) (function_list n) (imports_as f look p m serves) (functions_as f look p m serves) in
    let front_on = joined f types (imports look m ++ function_types look m.functions own) (type_list n) (import_list n ++ function_list n) typed imports_on in
    record {
      before = joined f (types ++ (imports look m ++ function_types look m.functions own)) (items_due ++ uses_due) (type_list n ++ (import_list n ++ function_list n)) (items ++ uses) front_on
          (joined f items_due uses_due items uses items_on uses_on);
      behind = segments_as f look p m serves;
    }

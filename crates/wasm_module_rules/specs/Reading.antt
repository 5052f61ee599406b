-- Lemmas: modules that are read are linked.
use Rattle.std.specs.Prelude.{ℕ, ◌+◌, ◌<◌, ◌≤◌, ◌≡◌, ◌==◌, Bool, true, false, List, [], ◌∷◌, length, fold, drop, Option, Some, None, refl}
use Rattle.std.specs.Option.{is_some}
use Rattle.std.proofs.Common.{ap, sym, ◌∙◌, subst, arith, inl, inr}
use Rattle.std.proofs.lemmas.Bool.{cases_Bool, eqb-true, ltb-true}
use Rattle.std.proofs.lemmas.List.{length-append}
use Rattle.wasm_features.specs.declared.WasmFeatures.{WasmFeatures}
use Rattle.wasm_formats.specs.declared.fault.Space.{Space}
use Rattle.wasm_formats.specs.declared.fault.Space.TheVariants as spaces
use Rattle.wasm_formats.specs.Formats.{Format}
use Rattle.wasm_formats.specs.Bytes.{either_type}
use Rattle.wasm_formats.specs.Joined.{after}
use Rattle.wasm_formats.specs.Wholes.{whole, sized}
use Rattle.wasm_file_formats.specs.Counted.{counted}
use Rattle.wasm_formats.specs.Lists.{SpellsEntries, EntryRules}
use Rattle.wasm_modules.specs.wasm_body_grammar.wasm_grammar.Modules.{Body, Imported, Function, Element, Import, Export}
use Rattle.wasm_modules.specs.wasm_body_grammar.wasm_grammar.States.{State, count_of, nothing_yet}
use Rattle.wasm_modules.specs.wasm_body_grammar.Codes.{own_type, filled_with, with_bodies}
use Rattle.wasm_modules.specs.wasm_sections.TypeSection.{GroupEntry, group, add_group}
use Rattle.wasm_modules.specs.wasm_sections.Entities.{TableType, MemoryType, TagType, Entity, FunctionOf, TableOf, MemoryOf, GlobalOf, TagOf, ImportEntry, entity, import_entry, add_entity, add_import, import_of, with_import, table_of, memory_of, global_of, space_of, next_number, function_entry, add_function, no_body, TableEntry, initialised, table_type, table_entry, add_table, memory_entry, add_memory, tag_type, tag_entry, add_tag, GlobalEntry, global_entry, add_global}
use Rattle.wasm_modules.specs.wasm_body_grammar.wasm_grammar.Modules.{Own}
use Rattle.wasm_modules.specs.wasm_sections.Exports.{ExportEntry, export_entry, add_export, kind_space}
use Rattle.wasm_modules.specs.wasm_sections.Segments.{functions, element_flags, data_flags, ElementForm, ActiveFunctions, PassiveFunctions, FunctionsInto, DeclaredFunctions, ActiveExpressions, PassiveExpressions, ExpressionsInto, DeclaredExpressions, ElementEntry, element_form, element_entry, add_element, element_of, DataForm, ActiveData, PassiveData, DataInto, DataEntry, data_form, data_entry, add_data, segment_of}
use Rattle.wasm_modules.specs.wasm_sections.Sections.{list_of, data_test, Section, CustomSection, TypeSection, ImportSection, FunctionSection, TableSection, MemorySection, TagSection, GlobalSection, ExportSection, StartSection, ElementSection, DataCountSection, CodeSection, DataSection, types_once, imports_once, functions_once, tables_once, memories_once, tags_once, globals_once, exports_once, elements_once, data_once, id_of, section, SectionEntry, section_entry, put, next}
use Rattle.wasm_modules.specs.wasm_sections.Ids.{either_case, section_id}
use Rattle.wasm_modules.specs.wasm_sections.Modules.{FileEntry, file, state_of}
use Rattle.wasm_modules.specs.Modules.{module_of}
use Rattle.wasm_modules.specs.wasm_body_grammar.wasm_grammar.Values.{in_order, is_shared}
use Rattle.wasm_module_rules.specs.Linked.{Each, IsFunctionType, IsThere, IsLinked, IsLimited, GoesInto, AllBelow, AreListed, ReadModulesAreLinked}
use Rattle.wasm_module_rules.specs.Keeps.{each_later, below_later, must_holds, first_none, not_true, listed_later, and_both, shared_has, room_rules, there_later, group_linked, function_linked, table_linked, memory_linked, tag_linked, global_linked, element_linked, data_linked, export_linked, start_linked, import_linked}

-- ---- which kind an entity has, and which flags a segment

abbrev pub kind_number : Entity → ℕ
kind_number (FunctionOf ty) = 0
kind_number (TableOf ty) = 1
kind_number (MemoryOf ty) = 2
kind_number (GlobalOf ty) = 3
kind_number (TagOf ty) = 4

abbrev pub element_number : ElementForm → ℕ
element_number (ActiveFunctions x) = 0
element_number (PassiveFunctions x) = 1
element_number (FunctionsInto x) = 2
element_number (DeclaredFunctions x) = 3
element_number (ActiveExpressions x) = 4
element_number (PassiveExpressions x) = 5
element_number (ExpressionsInto x) = 6
element_number (DeclaredExpressions x) = 7

abbrev pub data_number : DataForm → ℕ
data_number (ActiveData x) = 0
data_number (PassiveData x) = 1
data_number (DataInto x) = 2

numbered : {A : Type 0} (number : A → ℕ) (id n : ℕ) (y z : A) → (id == n) ≡ true → number y ≡ n → y ≡ z → number z ≡ id
numbered number id n y z is own same = ap number (sym same) ∙ own ∙ sym (eqb-true id n is)

pub entity_kind : (features : WasmFeatures) (s : State) (kind : ℕ) (bytes : List ℕ) (e : Entity) → (entity features s kind).spells bytes e → kind_number e ≡ kind
entity_kind features s kind bytes e h =
    either_case (kind == 0) h (λ is k. numbered kind_number kind 0 (FunctionOf k.0) e is refl k.1)
    (λ _ h. either_case (kind == 1) h (λ is k. numbered kind_number kind 1 (TableOf k.0) e is refl k.1)
    (λ _ h. either_case (kind == 2) h (λ is k. numbered kind_number kind 2 (MemoryOf k.0) e is refl k.1)
    (λ _ h. either_case (kind == 3) h (λ is k. numbered kind_number kind 3 (GlobalOf k.0) e is refl k.1)
    (λ _ h. either_case (kind == 4) h (λ is k. numbered kind_number kind 4 (TagOf k.0) e is refl k.1)
    (λ _ h. absurd h)))))

pub element_flag : (features : WasmFeatures) (s : State) (flags : ℕ) (bytes : List ℕ) (e : ElementForm) → (element_form features s flags).spells bytes e → element_number e ≡ flags
element_flag features s flags bytes e h =
    either_case (flags == 0) h (λ is k. numbered element_number flags 0 (ActiveFunctions k.0) e is refl k.1)
    (λ _ h. either_case (flags == 1) h (λ is k. numbered element_number flags 1 (PassiveFunctions k.0) e is refl k.1)
    (λ _ h. either_case (flags == 2) h (λ is k. numbered element_number flags 2 (FunctionsInto k.0) e is refl k.1)
    (λ _ h. either_case (flags == 3) h (λ is k. numbered element_number flags 3 (DeclaredFunctions k.0) e is refl k.1)
    (λ _ h. either_case (flags == 4) h (λ is k. numbered element_number flags 4 (ActiveExpressions k.0) e is refl k.1)
    (λ _ h. either_case (flags == 5) h (λ is k. numbered element_number flags 5 (PassiveExpressions k.0) e is refl k.1)
    (λ _ h. either_case (flags == 6) h (λ is k. numbered element_number flags 6 (ExpressionsInto k.0) e is refl k.1)
    (λ _ h. either_case (flags == 7) h (λ is k. numbered element_number flags 7 (DeclaredExpressions k.0) e is refl k.1)
    (λ _ h. absurd h))))))))

pub data_flag : (features : WasmFeatures) (s : State) (flags : ℕ) (bytes : List ℕ) (e : DataForm) → (data_form features s flags).spells bytes e → data_number e ≡ flags
data_flag features s flags bytes e h =
    either_case (flags == 0) h (λ is k. numbered data_number flags 0 (ActiveData k.0) e is refl k.1)
    (λ _ h. either_case (flags == 1) h (λ is k. numbered data_number flags 1 (PassiveData k.0) e is refl k.1)
    (λ _ h. either_case (flags == 2) h (λ is k. numbered data_number flags 2 (DataInto k.0) e is refl k.1)
    (λ _ h. absurd h)))

-- ---- entries

table_rule : (features : WasmFeatures) (s : State) (ty : TableType) → (table_type features s).rules ty → in_order ty.1.1.0 ty.1.1.1 ≡ true
table_rule features s ty r = let limits = r.1 in must_holds (in_order ty.1.1.0 ty.1.1.1) _ (first_none _ _ limits.1).1

memory_rule : (s : State) (ty : MemoryType) (n : Option ℕ) → (memory_entry s).rules ty → IsLimited (memory_of ty n)
memory_rule s ty n r =
    let held = and_both _ _ (must_holds _ _ (first_none _ _ r.1).0) in
    (held.0, shared_has (is_shared ty.0.0) _ held.1)

entity_go : (features : WasmFeatures) (s : State) (n : ℕ) (e : Entity) → (entity features s (kind_number e)).rules e → IsLinked s.filled → IsLinked (add_entity s n e).filled
entity_go features s n (FunctionOf ty) r h = function_linked (record s { imported = s.imported + 1 }) (record { ty = ty; origin = Imported n }) (r ty refl).1 h
entity_go features s n (TableOf ty) r h = table_linked s (table_of ty None (Some n)) (table_rule features s ty (r ty refl)) h
entity_go features s n (MemoryOf ty) r h =
    let q = r ty refl in
    let held = and_both _ _ (must_holds _ _ (first_none _ _ q.1).0) in
    memory_linked s (memory_of ty (Some n)) (held.0, shared_has (is_shared ty.0.0) _ held.1) h
entity_go features s n (GlobalOf ty) r h = global_linked s (global_of ty (Imported n)) h
entity_go features s n (TagOf ty) r h = let q = r ty refl in let f = q.1 in tag_linked s (record { ty = ty.1; imported = Some n }) f.1 h

entity_there : (s : State) (n : ℕ) (e : Entity) → next_number s e < count_of (add_entity s n e).filled (space_of e)
entity_there s n (FunctionOf ty) = omega (arith, length-append s.filled.functions (Some (record { ty = ty; origin = Imported n }) ∷ []))
entity_there s n (TableOf ty) = omega (arith, length-append s.filled.tables (Some (table_of ty None (Some n)) ∷ []))
entity_there s n (MemoryOf ty) = omega (arith, length-append s.filled.memories (Some (memory_of ty (Some n)) ∷ []))
entity_there s n (GlobalOf ty) = omega (arith, length-append s.filled.globals (Some (global_of ty (Imported n)) ∷ []))
entity_there s n (TagOf ty) = omega (arith, length-append s.filled.tags (Some (record { ty = ty.1; imported = Some n }) ∷ []))

-- the import may come before its item, or behind it
import_turn : (s : State) (n : ℕ) (x : Import) (e : Entity) → IsLinked (with_import (add_entity s n e) x).filled → IsLinked (add_entity (with_import s x) n e).filled
import_turn s n x (FunctionOf ty) h = h
import_turn s n x (TableOf ty) h = h
import_turn s n x (MemoryOf ty) h = h
import_turn s n x (GlobalOf ty) h = h
import_turn s n x (TagOf ty) h = h

import_step : (features : WasmFeatures) (s : State) (bytes : List ℕ) (x : ImportEntry) → (import_entry features s).spells bytes x → (import_entry features s).rules x → IsLinked s.filled → IsLinked (add_import s x).filled
import_step features s bytes x h r linked =
    let a = h.4 in let b = a.4 in
    let q = r.0 in let q1 = q.1 in let q2 = q1.1 in
    let e = x.1.1.1 in
    let n = length s.filled.imports in
    let rules = subst (λ (k : ℕ). (entity features s k).rules e) (sym (entity_kind features s x.1.1.0 b.1 e b.4)) q2.1 in
    import_turn s n (import_of s x) e (import_linked (add_entity s n e) (import_of s x) (entity_there s n e) (entity_go features s n e rules linked))

function_step : (s : State) (bytes : List ℕ) (x : ℕ) → (function_entry s).spells bytes x → (function_entry s).rules x → IsLinked s.filled → IsLinked (add_function s x).filled
function_step s bytes x h r linked = let q = r.0 in function_linked s (record { ty = x; origin = Own no_body }) q.1 linked

table_step : (features : WasmFeatures) (s : State) (bytes : List ℕ) (x : TableEntry) → (table_entry features s).spells bytes x → (table_entry features s).rules x → IsLinked s.filled → IsLinked (add_table s x).filled
table_step features s bytes (inl x) h r linked =
    let q : (initialised features s).rules x = room_rules _ r in let q1 = q.1 in table_linked s (table_of x.1.0 (Some x.1.1) None) (table_rule features s x.1.0 q1.0) linked
table_step features s bytes (inr ty) h r linked = table_linked s (table_of ty None None) (table_rule features s ty (room_rules _ r)) linked

memory_step : (s : State) (bytes : List ℕ) (x : MemoryType) → (memory_entry s).spells bytes x → (memory_entry s).rules x → IsLinked s.filled → IsLinked (add_memory s x).filled
memory_step s bytes x h r linked = memory_linked s (memory_of x None) (memory_rule s x None r) linked

tag_step : (s : State) (bytes : List ℕ) (x : TagType) → (tag_entry s).spells bytes x → (tag_entry s).rules x → IsLinked s.filled → IsLinked (add_tag s x).filled
tag_step s bytes x h r linked = let q : (tag_type s).rules x = room_rules _ r in let f = q.1 in tag_linked s (record { ty = x.1; imported = None }) f.1 linked

export_step : (s : State) (bytes : List ℕ) (x : ExportEntry) → (export_entry s).spells bytes x → (export_entry s).rules x → IsLinked s.filled → IsLinked (add_export s x).filled
export_step s bytes x h r linked =
    export_linked s x (ltb-true x.1 (count_of s.filled (kind_space x.0.1)) (must_holds _ _ r.2)) (not_true _ (must_holds _ _ (first_none _ _ r.1).0)) linked

pub element_go : (features : WasmFeatures) (s : State) (e : ElementForm) → (element_flags s).rules (element_number e) → (element_form features s (element_number e)).rules e → GoesInto (length s.filled.tables) (element_of e).mode
element_go features s (ActiveFunctions x) f r = ltb-true 0 (length s.filled.tables) (must_holds _ _ f.1)
element_go features s (PassiveFunctions x) f r = tt
element_go features s (FunctionsInto x) f r = let q = r x refl in let t = q.0 in let i = t.0 in ltb-true x.0.0 (length s.filled.tables) (must_holds _ _ i.1)
element_go features s (DeclaredFunctions x) f r = tt
element_go features s (ActiveExpressions x) f r = ltb-true 0 (length s.filled.tables) (must_holds _ _ f.1)
element_go features s (PassiveExpressions x) f r = tt
element_go features s (ExpressionsInto x) f r = let q = r x refl in let t = q.0 in let i = t.0 in ltb-true x.0.0 (length s.filled.tables) (must_holds _ _ i.1)
element_go features s (DeclaredExpressions x) f r = tt

listed_rule : (s : State) (xs : List ℕ) → (functions s).rules xs → AllBelow (length s.filled.functions) xs
listed_rule s [] r = tt
listed_rule s (x ∷ xs) r = let i = r.0 in (ltb-true x (length s.filled.functions) (must_holds _ _ i.1), listed_rule s xs r.1)

element_lists : (features : WasmFeatures) (s : State) (e : ElementForm) → (element_form features s (element_number e)).rules e → AreListed (length s.filled.functions) (element_of e).items
element_lists features s (ActiveFunctions x) r = let q = r x refl in listed_rule s x.1 q.1
element_lists features s (PassiveFunctions x) r = let q = r x refl in listed_rule s x.1 q.1
element_lists features s (FunctionsInto x) r = let q = r x refl in let k = q.1 in listed_rule s x.1.1 k.1
element_lists features s (DeclaredFunctions x) r = let q = r x refl in listed_rule s x.1 q.1
element_lists features s (ActiveExpressions x) r = tt
element_lists features s (PassiveExpressions x) r = tt
element_lists features s (ExpressionsInto x) r = tt
element_lists features s (DeclaredExpressions x) r = tt

element_step : (features : WasmFeatures) (s : State) (bytes : List ℕ) (x : ElementEntry) → (element_entry features s).spells bytes x → (element_entry features s).rules x → IsLinked s.filled → IsLinked (add_element s x).filled
element_step features s bytes x h r linked =
    let spelled : (after (element_flags s) (λ flags. element_form features s flags)).spells bytes x = room_spells _ h in
    let q : (after (element_flags s) (λ flags. element_form features s flags)).rules x = room_rules _ r in
    let same = sym (element_flag features s x.0 spelled.1 x.1 spelled.4) in
    element_linked s x (element_go features s x.1 (subst (λ (n : ℕ). (element_flags s).rules n) same q.0) (subst (λ (n : ℕ). (element_form features s n).rules x.1) same q.1)) (element_lists features s x.1 (subst (λ (n : ℕ). (element_form features s n).rules x.1) same q.1)) linked
  where
    room_spells : {P : Type 0} (room : Bool) → either_type room P P → P
    room_spells true p = p
    room_spells false p = p

pub data_go : (features : WasmFeatures) (s : State) (e : DataForm) → (data_flags s).rules (data_number e) → (data_form features s (data_number e)).rules e → GoesInto (length s.filled.memories) (segment_of e).mode
data_go features s (ActiveData x) f r = ltb-true 0 (length s.filled.memories) (must_holds _ _ f.1)
data_go features s (PassiveData x) f r = tt
data_go features s (DataInto x) f r = let q = r x refl in let t = q.0 in let i = t.0 in ltb-true x.0.0 (length s.filled.memories) (must_holds _ _ i.1)

data_step : (features : WasmFeatures) (s : State) (bytes : List ℕ) (x : DataEntry) → (data_entry features s).spells bytes x → (data_entry features s).rules x → IsLinked s.filled → IsLinked (add_data s x).filled
data_step features s bytes x h r linked =
    let spelled : (after (data_flags s) (λ flags. data_form features s flags)).spells bytes x = room_spells _ h in
    let q : (after (data_flags s) (λ flags. data_form features s flags)).rules x = room_rules _ r in
    let same = sym (data_flag features s x.0 spelled.1 x.1 spelled.4) in
    data_linked s x (data_go features s x.1 (subst (λ (n : ℕ). (data_flags s).rules n) same q.0) (subst (λ (n : ℕ). (data_form features s n).rules x.1) same q.1)) linked
  where
    room_spells : {P : Type 0} (room : Bool) → either_type room P P → P
    room_spells true p = p
    room_spells false p = p

-- ---- sections

entries_linked : {A : Type 0} (add : State → A → State) (entry : State → Format A)
    → ((s : State) (bytes : List ℕ) (x : A) → (entry s).spells bytes x → (entry s).rules x → IsLinked s.filled → IsLinked (add s x).filled)
    → (xs : List A) (s : State) (bytes : List ℕ) → SpellsEntries add entry s bytes xs → EntryRules add entry s xs → IsLinked s.filled → IsLinked (fold add s xs).filled
entries_linked add entry keep [] s bytes h r linked = linked
entries_linked add entry keep (x ∷ xs) s bytes h r linked = entries_linked add entry keep xs (add s x) h.1 h.4 r.1 (keep s h.0 x h.3 r.0 linked)

list_linked : {A : Type 0} (add : State → A → State) (entry : State → Format A)
    → ((s : State) (bytes : List ℕ) (x : A) → (entry s).spells bytes x → (entry s).rules x → IsLinked s.filled → IsLinked (add s x).filled)
    → (xs : List A) (s : State) (bytes : List ℕ) → (list_of add entry s).spells bytes xs → (list_of add entry s).rules xs → IsLinked s.filled → IsLinked (fold add s xs).filled
list_linked add entry keep xs s bytes h r linked = let inner = h.4 in entries_linked add entry keep xs s inner.1 inner.4 r linked

data_list : (features : WasmFeatures) (xs : List DataEntry) (s : State) (bytes : List ℕ) → (sized (whole (counted add_data (data_entry features) (data_test s.data_count) s))).spells bytes xs
    → (sized (whole (counted add_data (data_entry features) (data_test s.data_count) s))).rules xs → IsLinked s.filled → IsLinked (fold add_data s xs).filled
data_list features xs s bytes h r linked = let inner = h.4 in entries_linked add_data (data_entry features) (data_step features) xs s inner.1 inner.4 r.1 linked

put_go : (features : WasmFeatures) (s : State) (end : ℕ) (bytes : List ℕ) (x : Section) → (section features s (id_of x)).spells bytes x → (section features s (id_of x)).rules x → IsLinked s.filled → IsLinked (put s end x).filled
put_go features s end bytes (CustomSection x) h r linked = record { functions_typed = linked.functions_typed; tags_typed = linked.tags_typed; tables_limited = linked.tables_limited; memories_limited = linked.memories_limited; imports_there = linked.imports_there; exports_there = linked.exports_there; exports_distinct = linked.exports_distinct; start_there = linked.start_there; elements_there = linked.elements_there; elements_listed = linked.elements_listed; segments_there = linked.segments_there }
put_go features s end bytes (TypeSection x) h r linked =
    list_linked add_group (group features) (λ s bytes x h r linked. group_linked s x linked) x s bytes (subst (λ (y : List GroupEntry). (list_of add_group (group features) s).spells bytes y) (types_once h.0 x h.1) h.2) (r x refl) linked
put_go features s end bytes (ImportSection x) h r linked =
    list_linked add_import (import_entry features) (import_step features) x s bytes (subst (λ (y : List ImportEntry). (list_of add_import (import_entry features) s).spells bytes y) (imports_once h.0 x h.1) h.2) (r x refl) linked
put_go features s end bytes (FunctionSection x) h r linked =
    list_linked add_function function_entry function_step x s bytes (subst (λ (y : List ℕ). (list_of add_function function_entry s).spells bytes y) (functions_once h.0 x h.1) h.2) (r x refl) linked
put_go features s end bytes (TableSection x) h r linked =
    list_linked add_table (table_entry features) (table_step features) x s bytes (subst (λ (y : List TableEntry). (list_of add_table (table_entry features) s).spells bytes y) (tables_once h.0 x h.1) h.2) (r x refl) linked
put_go features s end bytes (MemorySection x) h r linked =
    list_linked add_memory memory_entry memory_step x s bytes (subst (λ (y : List MemoryType). (list_of add_memory memory_entry s).spells bytes y) (memories_once h.0 x h.1) h.2) (r x refl) linked
put_go features s end bytes (TagSection x) h r linked =
    list_linked add_tag tag_entry tag_step x s bytes (subst (λ (y : List TagType). (list_of add_tag tag_entry s).spells bytes y) (tags_once h.0 x h.1) h.2) (r x refl) linked
put_go features s end bytes (GlobalSection x) h r linked =
    list_linked add_global (global_entry features) (λ s bytes x h r linked. global_linked s (global_of x.0 (Own x.1)) linked) x s bytes (subst (λ (y : List GlobalEntry). (list_of add_global (global_entry features) s).spells bytes y) (globals_once h.0 x h.1) h.2) (r x refl) linked
put_go features s end bytes (ExportSection x) h r linked =
    list_linked add_export export_entry export_step x s bytes (subst (λ (y : List ExportEntry). (list_of add_export export_entry s).spells bytes y) (exports_once h.0 x h.1) h.2) (r x refl) linked
put_go features s end bytes (ElementSection x) h r linked =
    list_linked add_element (element_entry features) (element_step features) x s bytes (subst (λ (y : List ElementEntry). (list_of add_element (element_entry features) s).spells bytes y) (elements_once h.0 x h.1) h.2) (r x refl) linked
put_go features s end bytes (StartSection x) h r linked = let q = r x refl in start_linked s x (ltb-true x (length s.filled.functions) (must_holds _ _ q.1)) linked
put_go features s end bytes (DataCountSection x) h r linked = linked
put_go features s end bytes (CodeSection x) h r linked = linked
put_go features s end bytes (DataSection x) h r linked =
    data_list features x s bytes (subst (λ (y : List DataEntry). (sized (whole (counted add_data (data_entry features) (data_test s.data_count) s))).spells bytes y) (data_once h.0 x h.1) h.2) (r x refl) linked

next_linked : (features : WasmFeatures) (s : State) (bytes : List ℕ) (x : SectionEntry) → (section_entry features s).spells bytes x → (section_entry features s).rules x → IsLinked s.filled → IsLinked (next s x).filled
next_linked features s bytes x h r linked =
    let parts = h.0 in
    let same = sym (section_id features s x.1.0 parts.1 x.1.1 parts.4) in
    put_go features s x.0 parts.1 x.1.1 (subst (λ (n : ℕ). (section features s n).spells parts.1 x.1.1) same parts.4) (subst (λ (n : ℕ). (section features s n).rules x.1.1) same r.1) linked

-- ---- files, and their bodies

nothing_linked : IsLinked nothing_yet.filled
nothing_linked = record { functions_typed = tt; tags_typed = tt; tables_limited = tt; memories_limited = tt; imports_there = tt; exports_there = tt; exports_distinct = tt; start_there = tt; elements_there = tt; elements_listed = tt; segments_there = tt }

pub file_linked : (features : WasmFeatures) (bytes : List ℕ) (x : FileEntry) → (file features).spells bytes x → (file features).rules x → IsLinked (state_of x).filled
file_linked features bytes x h r =
    let sections = r.0 in
    entries_linked next (section_entry features) (next_linked features) x.1 nothing_yet h.1 h.4 sections.1 nothing_linked

pub bodies_length : (fs : List (Option Function)) (bodies : List Body) → length (with_bodies fs bodies) ≡ length fs
bodies_length [] bodies = refl
bodies_length (f ∷ fs) bodies = elim (cases_Bool (is_some (own_type f))) as (λ _. length (with_bodies (f ∷ fs) bodies) ≡ length (f ∷ fs)) [
  | inl own ↦ rw own (omega (arith, bodies_length fs (drop 1 bodies)))
  | inr other ↦ rw other (omega (arith, bodies_length fs bodies))
]

filled_each : (P : ℕ → Type 0) (f : Option Function) (fs : List (Option Function)) (bodies : List Body) → Each (λ (f : Function). P f.ty) (f ∷ fs) → Each (λ (f : Function). P f.ty) (filled_with f bodies ∷ fs)
filled_each P None fs bodies h = h
filled_each P (Some f) fs [] h = h
filled_each P (Some f) fs (body ∷ bodies) h = h

each_tail : (P : ℕ → Type 0) (f : Option Function) (fs : List (Option Function)) → Each (λ (f : Function). P f.ty) (f ∷ fs) → Each (λ (f : Function). P f.ty) fs
each_tail P None fs h = h
each_tail P (Some f) fs h = h.1

each_tails : (P : ℕ → Type 0) (f : Option Function) (fs gs : List (Option Function)) → Each (λ (f : Function). P f.ty) (f ∷ fs) → Each (λ (f : Function). P f.ty) gs → Each (λ (f : Function). P f.ty) (f ∷ gs)
each_tails P None fs gs h k = k
each_tails P (Some f) fs gs h k = (h.0, k)

bodies_each : (P : ℕ → Type 0) (fs : List (Option Function)) (bodies : List Body) → Each (λ (f : Function). P f.ty) fs → Each (λ (f : Function). P f.ty) (with_bodies fs bodies)
bodies_each P [] bodies h = tt
bodies_each P (f ∷ fs) bodies h = elim (cases_Bool (is_some (own_type f))) as (λ _. Each (λ (f : Function). P f.ty) (with_bodies (f ∷ fs) bodies)) [
  | inl own ↦ rw own (filled_each P f (with_bodies fs (drop 1 bodies)) bodies (each_tails P f fs (with_bodies fs (drop 1 bodies)) h (bodies_each P fs (drop 1 bodies) (each_tail P f fs h))))
  | inr other ↦ rw other (each_tails P f fs (with_bodies fs bodies) h (bodies_each P fs bodies (each_tail P f fs h)))
]

module_counts : (s : State) (bodies : List Body) (space : Space) → count_of s.filled space ≤ count_of (module_of s bodies) space
module_counts s bodies spaces.Type = omega arith
module_counts s bodies spaces.Function = omega (arith, bodies_length s.filled.functions bodies)
module_counts s bodies spaces.Table = omega arith
module_counts s bodies spaces.Memory = omega arith
module_counts s bodies spaces.Tag = omega arith
module_counts s bodies spaces.Global = omega arith
module_counts s bodies spaces.Element = omega arith
module_counts s bodies spaces.Data = omega arith
module_counts s bodies spaces.Local = omega arith
module_counts s bodies spaces.Label = omega arith

module_linked : (s : State) (bodies : List Body) → IsLinked s.filled → IsLinked (module_of s bodies)
module_linked s bodies h = record { functions_typed = bodies_each (λ (n : ℕ). IsFunctionType s.filled n) s.filled.functions bodies h.functions_typed; tags_typed = h.tags_typed; tables_limited = h.tables_limited; memories_limited = h.memories_limited; imports_there = each_later (λ (i : Import). IsThere s.filled i.item) (λ (i : Import). IsThere (module_of s bodies) i.item) (λ i p. there_later s.filled (module_of s bodies) i.item (module_counts s bodies i.item.space) p) s.filled.imports h.imports_there; exports_there = each_later (λ (e : Export). IsThere s.filled e.item) (λ (e : Export). IsThere (module_of s bodies) e.item) (λ e p. there_later s.filled (module_of s bodies) e.item (module_counts s bodies e.item.space) p) s.filled.exports h.exports_there; exports_distinct = h.exports_distinct; start_there = below_later (length s.filled.functions) (length (with_bodies s.filled.functions bodies)) s.filled.start (omega (arith, bodies_length s.filled.functions bodies)) h.start_there; elements_there = h.elements_there; elements_listed = each_later (λ (e : Element). AreListed (length s.filled.functions) e.items) (λ (e : Element). AreListed (length (with_bodies s.filled.functions bodies)) e.items) (λ e q. listed_later (length s.filled.functions) (length (with_bodies s.filled.functions bodies)) e.items (omega (arith, bodies_length s.filled.functions bodies)) q) s.filled.elements h.elements_listed; segments_there = h.segments_there }

pub read_modules_are_linked : ReadModulesAreLinked
read_modules_are_linked features bytes m h =
    let s = h.1.0 in
    let xs = h.1.1 in
    let reads = h.1.2 in
    let linked : IsLinked (state_of reads.0).filled = file_linked features bytes reads.0 reads.1.0 reads.1.1 in
    subst IsLinked h.1.4 (module_linked s xs (subst (λ (s : State). IsLinked s.filled) reads.2 linked))

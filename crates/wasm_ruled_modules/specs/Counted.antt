-- Lemmas: no list of a module that is read is longer than it may be.
use Rattle.std.specs.Prelude.{ℕ, suc, ◌+◌, ◌<◌, ◌≤◌, ◌≡◌, Bool, true, false, List, [], ◌∷◌, length, Option, Some, None, refl}
use Rattle.std.specs.List.{filter_map, flat_map, cons_option}
use Rattle.std.proofs.Common.{ap, arith, inl, inr}
use Rattle.std.proofs.lemmas.Bool.{ltb-true}
use Rattle.std.proofs.lemmas.List.{length-append}
use Rattle.std.proofs.lemmas.List.Concat.{flat_map-append}
use Rattle.wasm_features.specs.declared.WasmFeatures.{WasmFeatures}
use Rattle.walrus_forms.specs.Records.{TypeGroup}
use Rattle.wasm_formats.specs.declared.fault.Space.TheVariants as spaces
use Rattle.wasm_formats.specs.Stops.{Trouble}
use Rattle.wasm_formats.specs.Bytes.{either_type}
use Rattle.wasm_module_rules.specs.wasm_modules.wasm_body_grammar.wasm_grammar.Modules.{Own, Imported, Function, Table, Memory, Tag, Global, Import, empty}
use Rattle.wasm_module_rules.specs.wasm_modules.wasm_body_grammar.wasm_grammar.States.{State, types_of, has_room}
use Rattle.wasm_module_rules.specs.wasm_modules.wasm_sections.TypeNames.{kind_of}
use Rattle.wasm_module_rules.specs.wasm_modules.wasm_sections.TypeSection.{Measured, GroupEntry, members, sub_test, members_test, at_place, group_test, type_group, add_group}
use Rattle.wasm_module_rules.specs.wasm_modules.wasm_sections.Entities.{Entity, FunctionOf, TableOf, MemoryOf, GlobalOf, TagOf, ImportEntry, import_test, import_of, add_entity, add_import, with_import, table_of, memory_of, global_of, with_function, with_table, with_memory, with_tag, with_global, space_of, no_body, add_table, TableEntry}
use Rattle.wasm_module_rules.specs.wasm_modules.wasm_sections.Exports.{ExportEntry, name_test, kind_space, add_export}
use Rattle.wasm_module_rules.specs.wasm_modules.wasm_sections.Segments.{ElementEntry, add_element, element_of, DataEntry, add_data, segment_of}
use Rattle.wasm_module_rules.specs.Keeps.{must_holds, first_none}
use Rattle.wasm_ruled_modules.specs.Rules.{IsCounted}
use Rattle.wasm_ruled_modules.specs.Keeping.{EntriesKeep}

pub import_counted : (s : State) (x : Import) → length s.filled.imports < 1000000 → IsCounted s.filled → IsCounted (with_import s x).filled
import_counted s x lt h = record { types = h.types; imports = omega (arith, lt, length-append s.filled.imports (Some x ∷ [])); functions = h.functions; tables = h.tables; memories = h.memories; tags = h.tags; globals = h.globals; exports = h.exports; elements = h.elements; segments = h.segments }

pub function_counted : (s : State) (x : Function) → length s.filled.functions < 1000000 → IsCounted s.filled → IsCounted (with_function s x).filled
function_counted s x lt h = record { types = h.types; imports = h.imports; functions = omega (arith, lt, length-append s.filled.functions (Some x ∷ [])); tables = h.tables; memories = h.memories; tags = h.tags; globals = h.globals; exports = h.exports; elements = h.elements; segments = h.segments }

pub table_counted : (s : State) (x : Table) → length s.filled.tables < 100 → IsCounted s.filled → IsCounted (with_table s x).filled
table_counted s x lt h = record { types = h.types; imports = h.imports; functions = h.functions; tables = omega (arith, lt, length-append s.filled.tables (Some x ∷ [])); memories = h.memories; tags = h.tags; globals = h.globals; exports = h.exports; elements = h.elements; segments = h.segments }

pub memory_counted : (s : State) (x : Memory) → length s.filled.memories < 100 → IsCounted s.filled → IsCounted (with_memory s x).filled
memory_counted s x lt h = record { types = h.types; imports = h.imports; functions = h.functions; tables = h.tables; memories = omega (arith, lt, length-append s.filled.memories (Some x ∷ [])); tags = h.tags; globals = h.globals; exports = h.exports; elements = h.elements; segments = h.segments }

pub tag_counted : (s : State) (x : Tag) → length s.filled.tags < 1000000 → IsCounted s.filled → IsCounted (with_tag s x).filled
tag_counted s x lt h = record { types = h.types; imports = h.imports; functions = h.functions; tables = h.tables; memories = h.memories; tags = omega (arith, lt, length-append s.filled.tags (Some x ∷ [])); globals = h.globals; exports = h.exports; elements = h.elements; segments = h.segments }

pub global_counted : (s : State) (x : Global) → length s.filled.globals < 1000000 → IsCounted s.filled → IsCounted (with_global s x).filled
global_counted s x lt h = record { types = h.types; imports = h.imports; functions = h.functions; tables = h.tables; memories = h.memories; tags = h.tags; globals = omega (arith, lt, length-append s.filled.globals (Some x ∷ [])); exports = h.exports; elements = h.elements; segments = h.segments }

pub element_counted : (s : State) (x : ElementEntry) → length s.filled.elements < 100000 → IsCounted s.filled → IsCounted (add_element s x).filled
element_counted s x lt h = record { types = h.types; imports = h.imports; functions = h.functions; tables = h.tables; memories = h.memories; tags = h.tags; globals = h.globals; exports = h.exports; elements = omega (arith, lt, length-append s.filled.elements (Some (element_of x.1) ∷ [])); segments = h.segments }

pub data_counted : (s : State) (x : DataEntry) → length s.filled.segments < 100000 → IsCounted s.filled → IsCounted (add_data s x).filled
data_counted s x lt h = record { types = h.types; imports = h.imports; functions = h.functions; tables = h.tables; memories = h.memories; tags = h.tags; globals = h.globals; exports = h.exports; elements = h.elements; segments = omega (arith, lt, length-append s.filled.segments (Some (segment_of x.1) ∷ [])) }

-- ---- types

-- a test of several members that held
pub at_none : (place : ℕ) (o : Option Trouble) (later : Option (ℕ × Trouble)) → at_place place o later ≡ None → (o ≡ None) × (later ≡ None)
at_none place None later e = (refl, e)
at_none place (Some t) later e = absurd cc

-- members whose tests held are within the limit on types
members_counted : (end n : ℕ) (xs : List Measured) → members_test end n xs ≡ None → n ≤ 1000000 → n + length xs ≤ 1000000
members_counted end n [] e le = omega (arith, le)
members_counted end n (x ∷ xs) e le =
    let parts = at_none x.0 (sub_test end n x.1) (members_test end (suc n) xs) e in
    let lt : n < 1000000 = ltb-true n 1000000 (must_holds _ _ (first_none _ _ (first_none _ _ parts.0).1).1) in
    let later : suc n + length xs ≤ 1000000 = members_counted end (suc n) xs parts.1 (omega (arith, lt)) in
    omega (arith, later)

consed : {A : Type 0} (o : Option A) (ys : List A) (n : ℕ) → length ys ≤ n → length (cons_option o ys) ≤ suc n
consed None ys n le = omega (arith, le)
consed (Some y) ys n le = omega (arith, le)

filtered_length : {A B : Type 0} (f : A → Option B) (xs : List A) → length (filter_map f xs) ≤ length xs
filtered_length f [] = omega arith
filtered_length f (x ∷ xs) = consed (f x) (filter_map f xs) (length xs) (filtered_length f xs)

pub types_more : (s : State) (x : GroupEntry) → length (types_of (add_group s x).filled) ≡ length (types_of s.filled) + length (type_group x).kinds
types_more s x =
    let kinds : TypeGroup → List _ = λ g. g.kinds in
    omega (arith, ap length (flat_map-append kinds s.filled.groups (type_group x ∷ [])), length-append (types_of s.filled) (flat_map kinds (type_group x ∷ [])), length-append (type_group x).kinds [])

group_counted : (s : State) (x : GroupEntry) → group_test (length (types_of s.filled)) x ≡ None → IsCounted s.filled → IsCounted (add_group s x).filled
group_counted s x e h =
    let all = members_counted (length (types_of s.filled) + length (members x)) (length (types_of s.filled)) (members x) e h.types in
    let some = filtered_length (λ (m : Measured). kind_of m.1) (members x) in
    record { types = omega (arith, types_more s x, all, some); imports = h.imports; functions = h.functions; tables = h.tables; memories = h.memories; tags = h.tags; globals = h.globals; exports = h.exports; elements = h.elements; segments = h.segments }

-- ---- imports

entity_counted : (s : State) (n : ℕ) (e : Entity) → has_room s (space_of e) ≡ true → IsCounted s.filled → IsCounted (add_entity s n e).filled
entity_counted s n (FunctionOf ty) e h = function_counted (record s { imported = s.imported + 1 }) (record { ty = ty; origin = Imported n }) (ltb-true _ _ e) h
entity_counted s n (TableOf ty) e h = table_counted s (table_of ty None (Some n)) (ltb-true _ _ e) h
entity_counted s n (MemoryOf ty) e h = memory_counted s (memory_of ty (Some n)) (ltb-true _ _ e) h
entity_counted s n (GlobalOf ty) e h = global_counted s (global_of ty (Imported n)) (ltb-true _ _ e) h
entity_counted s n (TagOf ty) e h = tag_counted s (record { ty = ty.1; imported = Some n }) (ltb-true _ _ e) h

-- an import adds to no space
room_still : (s : State) (x : Import) (e : Entity) → has_room s (space_of e) ≡ true → has_room (with_import s x) (space_of e) ≡ true
room_still s x (FunctionOf ty) e = e
room_still s x (TableOf ty) e = e
room_still s x (MemoryOf ty) e = e
room_still s x (GlobalOf ty) e = e
room_still s x (TagOf ty) e = e

pub import_step : (s : State) (x : ImportEntry) → import_test s x ≡ None → IsCounted s.filled → IsCounted (add_import s x).filled
import_step s x e h =
    let tests = first_none _ _ e in
    let room = must_holds _ _ tests.1 in
    entity_counted (with_import s (import_of s x)) (length s.filled.imports) x.1.1.1 (room_still s (import_of s x) x.1.1.1 room)
    (import_counted s (import_of s x) (ltb-true (length s.filled.imports) 1000000 (must_holds _ _ tests.0)) h)

-- ---- entries

-- there is room where the rules hold
has_room_is : (P : Type 0) (room : Bool) → either_type room P ⊥ → room ≡ true
has_room_is P true h = refl
has_room_is P false h = absurd h

table_step : (s : State) (x : TableEntry) → length s.filled.tables < 100 → IsCounted s.filled → IsCounted (add_table s x).filled
table_step s (inl x) lt h = table_counted s (table_of x.1.0 (Some x.1.1) None) lt h
table_step s (inr ty) lt h = table_counted s (table_of ty None None) lt h

export_step : (s : State) (x : ExportEntry) → name_test s x.0.0 ≡ None → IsCounted s.filled → IsCounted (add_export s x).filled
export_step s x e h =
    let lt : length s.filled.exports < 1000000 = ltb-true (length s.filled.exports) 1000000 (must_holds _ _ (first_none _ _ e).1) in
    record { types = h.types; imports = h.imports; functions = h.functions; tables = h.tables; memories = h.memories; tags = h.tags; globals = h.globals; exports = omega (arith, lt, length-append s.filled.exports (Some (record { name = x.0.0; item = record { space = kind_space x.0.1; number = x.1 } }) ∷ [])); elements = h.elements; segments = h.segments }

pub counts_kept : (features : WasmFeatures) → EntriesKeep features IsCounted
counts_kept features = record {
  customs = λ _ s x h. record { types = h.types; imports = h.imports; functions = h.functions; tables = h.tables; memories = h.memories; tags = h.tags; globals = h.globals; exports = h.exports; elements = h.elements; segments = h.segments };
  groups = λ s bytes x _ r h. group_counted s x r.1 h;
  imports = λ s bytes x _ r h. import_step s x r.1 h;
  functions = λ s bytes x _ r h. function_counted s (record { ty = x; origin = Own no_body }) (ltb-true _ _ (must_holds _ _ r.1)) h;
  tables = λ s bytes x _ r h. table_step s x (ltb-true _ _ (has_room_is _ (has_room s spaces.Table) r)) h;
  memories = λ s bytes x _ r h. let t = r.1 in memory_counted s (memory_of x None) (ltb-true _ _ (must_holds _ _ (first_none _ _ t).1)) h;
  tags = λ s bytes x _ r h. tag_counted s (record { ty = x.1; imported = None }) (ltb-true _ _ (has_room_is _ (has_room s spaces.Tag) r)) h;
  globals = λ s bytes x _ r h. global_counted s (global_of x.0 (Own x.1)) (ltb-true _ _ (has_room_is _ (has_room s spaces.Global) r)) h;
  exports = λ s bytes x _ r h. export_step s x r.1 h;
  start = λ s n r h. record { types = h.types; imports = h.imports; functions = h.functions; tables = h.tables; memories = h.memories; tags = h.tags; globals = h.globals; exports = h.exports; elements = h.elements; segments = h.segments };
  elements = λ s bytes x _ r h. element_counted s x (ltb-true _ _ (has_room_is _ (has_room s spaces.Element) r)) h;
  segments = λ s bytes x _ r h. data_counted s x (ltb-true _ _ (has_room_is _ (has_room s spaces.Data) r)) h;
}

pub none_counted : IsCounted empty
none_counted = record { types = omega arith; imports = omega arith; functions = omega arith; tables = omega arith; memories = omega arith; tags = omega arith; globals = omega arith; exports = omega arith; elements = omega arith; segments = omega arith }

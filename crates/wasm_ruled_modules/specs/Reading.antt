-- Lemmas: modules that are read meet the rules.
use Rattle.std.specs.Prelude.{ℕ, ◌≤◌, ◌≡◌, List, [], ◌∷◌, ◌++◌, length, map, filter, Option, Some, refl}
use Rattle.std.specs.List.{filter_map}
use Rattle.std.specs.Option.{is_some}
use Rattle.std.proofs.Common.{ap, sym, ◌∙◌, subst, arith, inl, inr}
use Rattle.std.proofs.lemmas.List.{append-nil, map-append}
use Rattle.wasm_features.specs.declared.WasmFeatures.{WasmFeatures}
use Rattle.wasm_module_rules.specs.wasm_modules.wasm_body_grammar.wasm_grammar.Modules.{Own, Imported, Body, Function, Module}
use Rattle.wasm_module_rules.specs.wasm_modules.wasm_body_grammar.wasm_grammar.States.{State, types_of}
use Rattle.wasm_module_rules.specs.wasm_modules.wasm_sections.Entities.{Entity, FunctionOf, TableOf, MemoryOf, GlobalOf, TagOf, ImportEntry, add_entity, with_import, import_of, no_body, TableEntry, add_table}
use Rattle.wasm_module_rules.specs.wasm_modules.wasm_body_grammar.Codes.{own_type, ReadsCodes, with_bodies}
use Rattle.wasm_module_rules.specs.wasm_modules.wasm_body_grammar.Rules.{Around}
use Rattle.wasm_module_rules.specs.wasm_modules.Modules.{same_of, around, chunks_of, codes, module_of}
use Rattle.wasm_module_rules.specs.Linked.{Each}
use Rattle.wasm_module_rules.specs.Reading.{read_modules_are_linked, bodies_length}
use Rattle.wasm_ruled_modules.specs.Rules.{IsCounted, GroupsBelow, AreNamed, knows, is_imported, knows_imported, table_wide, memory_wide, AreExpressed, bare_slot, around_bodies, HasBody, ReadModulesAreRuled}
use Rattle.wasm_ruled_modules.specs.Keeping.{EntriesKeep, file_kept_at, file_kept}
use Rattle.wasm_ruled_modules.specs.Counted.{counts_kept, none_counted}
use Rattle.wasm_ruled_modules.specs.Grouped.{group_below}
use Rattle.wasm_ruled_modules.specs.Named.{names_kept, none_named}
use Rattle.wasm_ruled_modules.specs.More.{Grows, tables_more, offsets_more, segments_more, lists_more, globals_more}
use Rattle.wasm_ruled_modules.specs.Bodied.{bodies_are, bare_same}
use Rattle.wasm_ruled_modules.specs.Codes.{bodies_match}
use Rattle.wasm_ruled_modules.specs.Expressed.{Stands, stands_later, expressions_kept, none_stands}

import_keeps : (s : State) (e : Entity) (x : ImportEntry) → GroupsBelow 0 s.filled.groups → GroupsBelow 0 (add_entity (with_import s (import_of s x)) (length s.filled.imports) e).filled.groups
import_keeps s (FunctionOf ty) x h = h
import_keeps s (TableOf ty) x h = h
import_keeps s (MemoryOf ty) x h = h
import_keeps s (GlobalOf ty) x h = h
import_keeps s (TagOf ty) x h = h

table_keeps : (s : State) (x : TableEntry) → GroupsBelow 0 s.filled.groups → GroupsBelow 0 (add_table s x).filled.groups
table_keeps s (inl x) h = h
table_keeps s (inr ty) h = h

pub groups_kept : (features : WasmFeatures) → EntriesKeep features (λ m. GroupsBelow 0 m.groups)
groups_kept features = record {
  customs = λ _ s x h. h;
  groups = λ s bytes x _ r h. group_below s x r.1 h;
  imports = λ s bytes x _ r h. import_keeps s x.1.1.1 x h;
  functions = λ s bytes x _ r h. h;
  tables = λ s bytes x _ r h. table_keeps s x h;
  memories = λ s bytes x _ r h. h;
  tags = λ s bytes x _ r h. h;
  globals = λ s bytes x _ r h. h;
  exports = λ s bytes x _ r h. h;
  start = λ s n r h. h;
  elements = λ s bytes x _ r h. h;
  segments = λ s bytes x _ r h. h;
}

counted_with : (s : State) (bodies : List Body) → IsCounted s.filled → IsCounted (module_of s bodies)
counted_with s bodies h = record {
  types = h.types;
  imports = h.imports;
  functions = let le = h.functions in omega (arith, le, bodies_length s.filled.functions bodies);
  tables = h.tables;
  memories = h.memories;
  tags = h.tags;
  globals = h.globals;
  exports = h.exports;
  elements = h.elements;
  segments = h.segments;
}

expressed_with : (s : State) (bodies : List Body) → AreExpressed s.filled → AreExpressed (module_of s bodies)
expressed_with s bodies e =
    let m = module_of s bodies in
    let le : length s.filled.functions ≤ length (with_bodies s.filled.functions bodies) = omega (arith, bodies_length s.filled.functions bodies) in
    let t : Grows (knows_imported s.filled) (knows_imported m) = record { types = omega arith; functions = le; more = []; globals = sym (append-nil (filter is_imported s.filled.globals)) } in
    let g : Grows (knows s.filled) (knows m) = record { types = omega arith; functions = le; more = []; globals = sym (append-nil s.filled.globals) } in record {
      tables = tables_more (knows_imported s.filled) (knows_imported m) t s.filled.tables e.tables;
      globals = globals_more (length (types_of s.filled)) (length s.filled.functions) (length (types_of s.filled)) (length (with_bodies s.filled.functions bodies)) (omega arith) le [] s.filled.globals e.globals;
      offsets = offsets_more (table_wide s.filled.tables) (knows s.filled) (knows m) g s.filled.elements e.offsets;
      items = lists_more (knows s.filled) (knows m) g s.filled.elements e.items;
      segments = segments_more (memory_wide s.filled.memories) (knows s.filled) (knows m) g s.filled.segments e.segments;
    }

import_bare : (s : State) (n : ℕ) (e : Entity) → map bare_slot s.filled.functions ≡ s.filled.functions → map bare_slot (add_entity s n e).filled.functions ≡ (add_entity s n e).filled.functions
import_bare s n (FunctionOf ty) h =
    let f : Option Function = Some (record { ty = ty; origin = Imported n }) in
    map-append bare_slot s.filled.functions (f ∷ []) ∙ ap (λ (fs : List (Option Function)). fs ++ f ∷ []) h
import_bare s n (TableOf ty) h = h
import_bare s n (MemoryOf ty) h = h
import_bare s n (GlobalOf ty) h = h
import_bare s n (TagOf ty) h = h

table_bare : (s : State) (x : TableEntry) → map bare_slot s.filled.functions ≡ s.filled.functions → map bare_slot (add_table s x).filled.functions ≡ (add_table s x).filled.functions
table_bare s (inl x) h = h
table_bare s (inr ty) h = h

-- until the bodies are read no function has one
bare_kept : (features : WasmFeatures) → EntriesKeep features (λ m. map bare_slot m.functions ≡ m.functions)
bare_kept features = record {
  customs = λ _ s x h. h;
  groups = λ s bytes x _ r h. h;
  imports = λ s bytes x _ r h. import_bare (with_import s (import_of s x)) (length s.filled.imports) x.1.1.1 h;
  functions = λ s bytes x _ r h.
      let f : Option Function = Some (record { ty = x; origin = Own no_body }) in
      map-append bare_slot s.filled.functions (f ∷ []) ∙ ap (λ (fs : List (Option Function)). fs ++ f ∷ []) h;
  tables = λ s bytes x _ r h. table_bare s x h;
  memories = λ s bytes x _ r h. h;
  tags = λ s bytes x _ r h. h;
  globals = λ s bytes x _ r h. h;
  exports = λ s bytes x _ r h. h;
  start = λ s n r h. h;
  elements = λ s bytes x _ r h. h;
  segments = λ s bytes x _ r h. h;
}

-- what is around the bodies is what was read before them
around_is : (features : WasmFeatures) (s : State) (xs : List Body) → map bare_slot s.filled.functions ≡ s.filled.functions → around_bodies features (is_some s.data_count) (module_of s xs) ≡ around features s
around_is features s xs e =
    ap (λ (fs : List (Option Function)). record { features = features; filled = record s.filled { functions = fs }; same = same_of s.filled; counted = is_some s.data_count })
    (bare_same s.filled.functions xs ∙ e)

bodied_with : (features : WasmFeatures) (s : State) (xs : List Body) → map bare_slot s.filled.functions ≡ s.filled.functions → length (chunks_of s.bodies) ≡ length (filter_map own_type s.filled.functions)
    → ReadsCodes (around features s) (codes s) xs
    → Each (λ (f : Function). HasBody (around_bodies features (is_some s.data_count) (module_of s xs)) f) (module_of s xs).functions
bodied_with features s xs e n h =
    subst (λ (a : Around). Each (λ (f : Function). HasBody a f) (with_bodies s.filled.functions xs)) (sym (around_is features s xs e))
    (bodies_are (around features s) s.filled s.filled.functions (chunks_of s.bodies) xs n h)

pub read_modules_are_ruled : ReadModulesAreRuled
read_modules_are_ruled features bytes m h =
    let s = h.1.0 in
    let xs = h.1.1 in
    let reads = h.1.2 in
    let counted = file_kept features IsCounted (counts_kept features) none_counted bytes reads.0 reads.1.0 reads.1.1 in
    let groups = file_kept features (λ m. GroupsBelow 0 m.groups) (groups_kept features) tt bytes reads.0 reads.1.0 reads.1.1 in
    let named = file_kept features AreNamed (names_kept features) none_named bytes reads.0 reads.1.0 reads.1.1 in
    let stands = file_kept_at features Stands stands_later (expressions_kept features) none_stands bytes reads.0 reads.1.0 reads.1.1 in
    let bare = file_kept features (λ m. map bare_slot m.functions ≡ m.functions) (bare_kept features) refl bytes reads.0 reads.1.0 reads.1.1 in
    let matched = bodies_match features bytes reads.0 reads.1.0 reads.1.1 in
    let bare_there = subst (λ (s : State). map bare_slot s.filled.functions ≡ s.filled.functions) reads.2 bare in
    let matched_there = subst (λ (s : State). length (chunks_of s.bodies) ≡ length (filter_map own_type s.filled.functions)) reads.2 matched in
    let named = subst (λ (s : State). AreNamed s.filled) reads.2 named in (
      is_some s.data_count,
      record {
        linked = read_modules_are_linked features bytes m h;
        lists = subst IsCounted h.1.4 (counted_with s xs (subst (λ (s : State). IsCounted s.filled) reads.2 counted));
        groups = subst (λ (m : Module). GroupsBelow 0 m.groups) h.1.4 (subst (λ (s : State). GroupsBelow 0 s.filled.groups) reads.2 groups);
        named = subst AreNamed h.1.4 (record { tables = named.tables; globals = named.globals; elements = named.elements; pages = named.pages });
        expressed = subst AreExpressed h.1.4 (expressed_with s xs (subst (λ (s : State). AreExpressed s.filled) reads.2 stands.0.1));
        bodies = subst (λ (m : Module). Each (λ (f : Function). HasBody (around_bodies features (is_some s.data_count) m) f) m.functions) h.1.4 (bodied_with features s xs bare_there matched_there h.1.3);
      },
    )

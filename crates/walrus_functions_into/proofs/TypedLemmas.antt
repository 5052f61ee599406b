-- Lemmas: functions that were read name function types, and so do what they become.
use Rattle.std.proofs.Common.{◌≡◌, ◌<◌, ℕ, zero, suc, List, [], ◌∷◌, length, map, Option, Some, None, slice_get, refl, sym, subst, inl, inr}
use Rattle.std.proofs.lemmas.List.Elements.{All-nil, All-cons}
use Rattle.std.proofs.lemmas.Option.{slice_get_within}
use Rattle.wasm_features.specs.declared.WasmFeatures.{WasmFeatures}
use Rattle.walrus_collections.specs.walrus_tree.walrus_walks.walrus_types.walrus_forms.Records.{TypeGroup}
use Rattle.walrus_collections.specs.walrus_tree.walrus_walks.walrus_types.walrus_forms.Renaming.{at}
use Rattle.walrus_types_into.specs.wasm_module_rules.wasm_modules.wasm_body_grammar.wasm_grammar.Modules.{Imported, Own, Import, Module, Function as GrammarFunction}
use Rattle.walrus_types_into.specs.wasm_module_rules.wasm_modules.wasm_body_grammar.wasm_grammar.States.{State, form_test}
use Rattle.walrus_types_into.specs.walrus_known_sections.wasm_sections.TypeSection.{GroupEntry, add_group}
use Rattle.walrus_types_into.specs.walrus_known_sections.wasm_sections.Entities.{Entity, FunctionOf, TableOf, MemoryOf, GlobalOf, TagOf, ImportEntry, entity, import_entry, add_entity, add_import, import_of, with_import, no_body, TableEntry, add_table}
use Rattle.walrus_types_into.specs.wasm_module_rules.Linked.{Each, IsFunctionType as IsTyped}
use Rattle.walrus_types_into.specs.wasm_module_rules.Keeps.{each_push, each_later, typed_later, types_more}
use Rattle.walrus_types_into.specs.wasm_module_rules.Reading.{kind_number, entity_kind}
use Rattle.walrus_types_into.specs.wasm_ruled_modules.Keeping.{EntriesKeep, file_kept}
use Rattle.walrus_collections.specs.walrus_tree.walrus_walks.walrus_types.Table.{Table, IsFunctionType}
use Rattle.walrus_types_into.specs.Into.{TypesStand}
use Rattle.walrus_types_into.specs.Functions.{function_stands}
use Rattle.walrus_collections.specs.walrus_module_items.declared.function.Function.{Function}
use Rattle.walrus_collections.specs.walrus_module_items.Functions.{type_of}
use Rattle.walrus_types_into.specs.walrus_known_sections.declared.items.Function.{Function as ReadFunction}
use Rattle.walrus_types_into.specs.walrus_known_sections.Items.{function_of}
use Rattle.walrus_types_into.specs.walrus_known_sections.Types.{kinds_in}
use Rattle.walrus_functions_into.specs.Functions.{AreTyped, functions_from, kind_of}
use Rattle.walrus_functions_into.specs.Laws.{ReadFunctionsStand}

-- ---- what each entry keeps

abbrev AllTyped : Module → Type 0
AllTyped m = Each (λ (f : GrammarFunction). IsTyped m f.ty) m.functions

entity_typed : (features : WasmFeatures) (s : State) (n : ℕ) (e : Entity) → (entity features s (kind_number e)).rules e → AllTyped s.filled → AllTyped (add_entity s n e).filled
entity_typed features s n (FunctionOf ty) r h = each_push (λ (f : GrammarFunction). IsTyped s.filled f.ty) s.filled.functions (record { ty = ty; origin = Imported n }) h (r ty refl).1
entity_typed features s n (TableOf ty) r h = h
entity_typed features s n (MemoryOf ty) r h = h
entity_typed features s n (GlobalOf ty) r h = h
entity_typed features s n (TagOf ty) r h = h

-- the import may come before its item, or behind it
import_turn : (s : State) (n : ℕ) (x : Import) (e : Entity) → AllTyped (add_entity s n e).filled → AllTyped (add_entity (with_import s x) n e).filled
import_turn s n x (FunctionOf ty) h = h
import_turn s n x (TableOf ty) h = h
import_turn s n x (MemoryOf ty) h = h
import_turn s n x (GlobalOf ty) h = h
import_turn s n x (TagOf ty) h = h

import_typed : (features : WasmFeatures) (s : State) (bytes : List ℕ) (x : ImportEntry) → (import_entry features s).spells bytes x → (import_entry features s).rules x → AllTyped s.filled → AllTyped (add_import s x).filled
import_typed features s bytes x h r typed =
    let a = h.4 in let b = a.4 in
    let q = r.0 in let q1 = q.1 in let q2 = q1.1 in
    let e = x.1.1.1 in
    let n = length s.filled.imports in
    let rules = subst (λ (k : ℕ). (entity features s k).rules e) (sym (entity_kind features s x.1.1.0 b.1 e b.4)) q2.1 in
    import_turn s n (import_of s x) e (entity_typed features s n e rules typed)

group_typed : (s : State) (x : GroupEntry) → AllTyped s.filled → AllTyped (add_group s x).filled
group_typed s x h =
    let more = (add_group s x).filled in
    each_later (λ (f : GrammarFunction). IsTyped s.filled f.ty) (λ (f : GrammarFunction). IsTyped more f.ty) (λ f p. typed_later s.filled more _ f.ty (types_more s x) p) s.filled.functions h

table_typed : (s : State) (x : TableEntry) → AllTyped s.filled → AllTyped (add_table s x).filled
table_typed s (inl x) h = h
table_typed s (inr ty) h = h

typed_kept : (features : WasmFeatures) → EntriesKeep features AllTyped
typed_kept features = record {
  customs = λ _ s x h. h;
  groups = λ s bytes x _ r h. group_typed s x h;
  imports = import_typed features;
  functions = λ s bytes x _ r h. let q = r.0 in each_push (λ (f : GrammarFunction). IsTyped s.filled f.ty) s.filled.functions (record { ty = x; origin = Own no_body }) h q.1;
  tables = λ s bytes x _ r h. table_typed s x h;
  memories = λ s bytes x _ r h. h;
  tags = λ s bytes x _ r h. h;
  globals = λ s bytes x _ r h. h;
  exports = λ s bytes x _ r h. h;
  start = λ s n r h. h;
  elements = λ s bytes x _ r h. h;
  segments = λ s bytes x _ r h. h;
}

-- ---- what they become

at_is : (ids : List ℕ) (i id : ℕ) → slice_get ids i ≡ Some id → at ids i ≡ id
at_is [] i id e = absurd cc
at_is (x ∷ ids) zero id e = some_is e
  where
    some_is : Some x ≡ Some id → x ≡ id
    some_is e = cc
at_is (x ∷ ids) (suc i) id e = at_is ids i id e

kind_type : (t : Table) (ty : ℕ) (import : Option ℕ) → IsFunctionType t ty → IsFunctionType t (type_of (kind_of ty import))
kind_type t ty None h = h
kind_type t ty (Some n) h = h

module _ (groups : List TypeGroup) (types : List ℕ) (t : Table) (stand : TypesStand groups types t) where
  abbrev Named : List ReadFunction → Type 0
  Named reads = Each (λ (f : GrammarFunction). form_test (slice_get (kinds_in groups) f.ty) ≡ None) (map (λ (f : ReadFunction). Some (function_of f)) reads)

  are_typed : (reads : List ReadFunction) → Named reads → AreTyped types reads
  are_typed [] h = All-nil (λ (f : ReadFunction). f.ty < length types)
  are_typed (r ∷ reads) h =
      let one = function_stands groups types t stand r.ty h.0 in
      All-cons (λ (f : ReadFunction). f.ty < length types) r reads (slice_get_within types r.ty one.0 one.1) (are_typed reads h.1)

  have_types : (id : ℕ) (reads : List ReadFunction) → Named reads → Each (λ (f : Function). IsFunctionType t (type_of f.kind)) (functions_from types id reads)
  have_types id [] h = tt
  have_types id (r ∷ reads) h =
      let one = function_stands groups types t stand r.ty h.0 in
      (kind_type t (at types r.ty) r.import (subst (λ (ty : ℕ). IsFunctionType t ty) (sym (at_is types r.ty one.0 one.1)) one.2), have_types (suc id) reads h.1)

pub read_functions_stand : ReadFunctionsStand
read_functions_stand features bytes s types t id reads stand =
    let kept = file_kept features AllTyped (typed_kept features) tt bytes reads.0 reads.1.0 reads.1.1 in
    let named = subst (λ (s : State). AllTyped s.filled) reads.2 kept in
    (are_typed s.types types t stand s.functions.items named, have_types s.types types t stand id s.functions.items named)

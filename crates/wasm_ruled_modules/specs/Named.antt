-- Lemmas: items of a module that is read name types that are there, and page sizes are 1 or 65,536.
use Rattle.std.specs.Prelude.{ℕ, ◌<◌, ◌≤◌, ◌≡◌, ◌==◌, ◌||◌, ◌⊎◌, Bool, true, false, List, [], ◌∷◌, ◌++◌, length, Option, Some, None, IfSome, refl}
use Rattle.std.proofs.Common.{sym, subst, arith, inl, inr}
use Rattle.std.proofs.lemmas.Bool.{cases_Bool, eqb-true, ltb-true}
use Rattle.wasm_features.specs.declared.WasmFeatures.{WasmFeatures}
use Rattle.walrus_forms.specs.declared.value.RefType.{RefType}
use Rattle.walrus_forms.specs.declared.value.ValType.{ValType}
use Rattle.walrus_forms.specs.Values.{heap_name, value_name}
use Rattle.walrus_forms.specs.Renaming.{RefBelow, ValueBelow}
use Rattle.wasm_formats.specs.Stops.{Trouble, Bounds}
use Rattle.wasm_formats.specs.Bytes.{either_type}
use Rattle.wasm_formats.specs.Joined.{after}
use Rattle.wasm_module_rules.specs.wasm_modules.wasm_body_grammar.wasm_grammar.Modules.{Own, Imported, Table, Memory, Global, Elements, Functions, Expressions, Element, empty}
use Rattle.wasm_module_rules.specs.wasm_modules.wasm_body_grammar.wasm_grammar.Values.{named_below, ref_type, value_type, Limits, memory_limits}
use Rattle.wasm_module_rules.specs.wasm_modules.wasm_body_grammar.wasm_grammar.States.{State, types_of, type_count, known}
use Rattle.wasm_module_rules.specs.wasm_modules.wasm_body_grammar.wasm_grammar.Exprs.{expr}
use Rattle.wasm_module_rules.specs.wasm_modules.wasm_sections.TypeSection.{GroupEntry, add_group}
use Rattle.wasm_module_rules.specs.wasm_modules.wasm_sections.Entities.{MemoryType, Entity, FunctionOf, TableOf, MemoryOf, GlobalOf, TagOf, entity, ImportEntry, import_entry, add_entity, add_import, import_of, with_import, table_of, memory_of, global_of, table_type, global_type, initialised, TableEntry, table_entry, add_table, memory_entry, add_memory, GlobalEntry, global_entry, add_global}
use Rattle.wasm_module_rules.specs.wasm_modules.wasm_sections.Segments.{typed, ElementForm, ActiveFunctions, PassiveFunctions, FunctionsInto, DeclaredFunctions, ActiveExpressions, PassiveExpressions, ExpressionsInto, DeclaredExpressions, element_flags, element_form, ElementEntry, element_entry, add_element, element_of}
use Rattle.wasm_module_rules.specs.Linked.{Each}
use Rattle.wasm_module_rules.specs.Keeps.{each_push, each_later, must_holds, room_rules}
use Rattle.wasm_module_rules.specs.Reading.{kind_number, element_number, entity_kind, element_flag}
use Rattle.wasm_ruled_modules.specs.Rules.{ItemsBelow, IsPageSize, AreNamed}
use Rattle.wasm_ruled_modules.specs.Counted.{types_more}
use Rattle.wasm_ruled_modules.specs.Keeping.{EntriesKeep}

-- ---- what the rules of values say

named_is : (types : ℕ) (o : Option ℕ) → named_below types o ≡ None → IfSome o (λ n. n < types)
named_is types None e = tt
named_is types (Some n) e = ltb-true n types (must_holds _ _ e)

ref_named : (features : WasmFeatures) (types : ℕ) (ty : RefType) → (ref_type features types).rules ty → RefBelow types ty
ref_named features types ty r = named_is types (heap_name ty.heap_type) r.1

pub value_named : (features : WasmFeatures) (types : ℕ) (ty : ValType) → (value_type features types).rules ty → ValueBelow types ty
value_named features types ty r = named_is types (value_name ty) r.1

page_either : (n : ℕ) → (n == 0 || n == 16) ≡ true → (n ≡ 0) ⊎ (n ≡ 16)
page_either n e = elim (cases_Bool (n == 0)) [
  | inl is ↦ inl (eqb-true n 0 is)
  | inr other ↦ inr (eqb-true n 16 (rw other at e))
]

page_is : (l : Limits) (page : Option ℕ) (room : Option Trouble) → (memory_limits room).rules (l, page) → IsPageSize page
page_is l None room r = tt
page_is l (Some n) room r = let t = r.2 in page_either n (must_holds (n == 0 || n == 16) Bounds t)

-- ---- more types

some_later : (n m : ℕ) (o : Option ℕ) → n ≤ m → IfSome o (λ k. k < n) → IfSome o (λ k. k < m)
some_later n m None le h = tt
some_later n m (Some k) le h = omega (arith, le, h)

items_later : (n m : ℕ) (items : Elements) → n ≤ m → ItemsBelow n items → ItemsBelow m items
items_later n m (Functions ns) le h = tt
items_later n m (Expressions ty es) le h = some_later n m (heap_name ty.heap_type) le h

group_named : (s : State) (x : GroupEntry) → AreNamed s.filled → AreNamed (add_group s x).filled
group_named s x h =
    let n = length (types_of s.filled) in
    let m = length (types_of (add_group s x).filled) in
    let le : n ≤ m = omega (arith, types_more s x) in record {
      tables = each_later (λ (t : Table). RefBelow n t.element) (λ (t : Table). RefBelow m t.element) (λ t p. some_later n m (heap_name t.element.heap_type) le p) s.filled.tables h.tables;
      globals = each_later (λ (g : Global). ValueBelow n g.ty) (λ (g : Global). ValueBelow m g.ty) (λ g p. some_later n m (value_name g.ty) le p) s.filled.globals h.globals;
      elements = each_later (λ (e : Element). ItemsBelow n e.items) (λ (e : Element). ItemsBelow m e.items) (λ e p. items_later n m e.items le p) s.filled.elements h.elements;
      pages = h.pages;
    }

-- ---- items

one_table : (features : WasmFeatures) (s : State) (x : Table) → RefBelow (type_count s) x.element → AreNamed s.filled → Each (λ (t : Table). RefBelow (type_count s) t.element) (s.filled.tables ++ Some x ∷ [])
one_table features s x p h = each_push (λ (t : Table). RefBelow (type_count s) t.element) s.filled.tables x h.tables p

entity_named : (features : WasmFeatures) (s : State) (n : ℕ) (e : Entity) → (entity features s (kind_number e)).rules e → AreNamed s.filled → AreNamed (add_entity s n e).filled
entity_named features s n (FunctionOf ty) r h = record { tables = h.tables; globals = h.globals; elements = h.elements; pages = h.pages }
entity_named features s n (TableOf ty) r h =
    let q = r ty refl in record { tables = one_table features s (table_of ty None (Some n)) (ref_named features (type_count s) ty.0 q.0) h; globals = h.globals; elements = h.elements; pages = h.pages }
entity_named features s n (MemoryOf ty) r h =
    record { tables = h.tables; globals = h.globals; elements = h.elements; pages = each_push (λ (x : Memory). IsPageSize x.page_size_log2) s.filled.memories (memory_of ty (Some n)) h.pages (page_is ty.0 ty.1 None (r ty refl)) }
entity_named features s n (GlobalOf ty) r h =
    let q = r ty refl in record {
      tables = h.tables;
      globals = each_push (λ (g : Global). ValueBelow (type_count s) g.ty) s.filled.globals (global_of ty (Imported n)) h.globals (value_named features (type_count s) ty.0 q.0);
      elements = h.elements;
      pages = h.pages;
    }
entity_named features s n (TagOf ty) r h = record { tables = h.tables; globals = h.globals; elements = h.elements; pages = h.pages }

import_named : (features : WasmFeatures) (s : State) (bytes : List ℕ) (x : ImportEntry) → (import_entry features s).spells bytes x → (import_entry features s).rules x → AreNamed s.filled → AreNamed (add_import s x).filled
import_named features s bytes x h r p =
    let a = h.4 in let b = a.4 in
    let q = r.0 in let q1 = q.1 in let q2 = q1.1 in
    let e = x.1.1.1 in
    let rules = subst (λ (k : ℕ). (entity features s k).rules e) (sym (entity_kind features s x.1.1.0 b.1 e b.4)) q2.1 in
    entity_named features (with_import s (import_of s x)) (length s.filled.imports) e rules (record { tables = p.tables; globals = p.globals; elements = p.elements; pages = p.pages })

table_named : (features : WasmFeatures) (s : State) (bytes : List ℕ) (x : TableEntry) → (table_entry features s).spells bytes x → (table_entry features s).rules x → AreNamed s.filled → AreNamed (add_table s x).filled
table_named features s bytes (inl x) h r p =
    let q : (initialised features s).rules x = room_rules _ r in
    let q1 = q.1 in
    let ty = q1.0 in
    record { tables = one_table features s (table_of x.1.0 (Some x.1.1) None) (ref_named features (type_count s) x.1.0.0 ty.0) p; globals = p.globals; elements = p.elements; pages = p.pages }
table_named features s bytes (inr ty) h r p =
    let q : (table_type features s).rules ty = room_rules _ r in
    record { tables = one_table features s (table_of ty None None) (ref_named features (type_count s) ty.0 q.0) p; globals = p.globals; elements = p.elements; pages = p.pages }

global_named : (features : WasmFeatures) (s : State) (x : GlobalEntry) → (global_entry features s).rules x → AreNamed s.filled → AreNamed (add_global s x).filled
global_named features s x r p =
    let q : (after (global_type features s) (λ _. expr features (known s))).rules x = room_rules _ r in
    let ty : (global_type features s).rules x.0 = q.0 in record {
      tables = p.tables;
      globals = each_push (λ (g : Global). ValueBelow (type_count s) g.ty) s.filled.globals (global_of x.0 (Own x.1)) p.globals (value_named features (type_count s) x.0.0 ty.0);
      elements = p.elements;
      pages = p.pages;
    }

form_named : (features : WasmFeatures) (s : State) (e : ElementForm) → (element_form features s (element_number e)).rules e → ItemsBelow (type_count s) (element_of e).items
form_named features s (ActiveFunctions x) r = tt
form_named features s (PassiveFunctions x) r = tt
form_named features s (FunctionsInto x) r = tt
form_named features s (DeclaredFunctions x) r = tt
form_named features s (ActiveExpressions x) r = tt
form_named features s (PassiveExpressions x) r = let q : (typed features s).rules x = r x refl in ref_named features (type_count s) x.0 q.0
form_named features s (ExpressionsInto x) r = let q = r x refl in let t : (typed features s).rules x.1 = q.1 in ref_named features (type_count s) x.1.0 t.0
form_named features s (DeclaredExpressions x) r = let q : (typed features s).rules x = r x refl in ref_named features (type_count s) x.0 q.0

-- the same is spelled, whether there is room or not
pub room_spells : {P : Type 0} (room : Bool) → either_type room P P → P
room_spells true p = p
room_spells false p = p

element_named : (features : WasmFeatures) (s : State) (bytes : List ℕ) (x : ElementEntry) → (element_entry features s).spells bytes x → (element_entry features s).rules x → AreNamed s.filled → AreNamed (add_element s x).filled
element_named features s bytes x h r p =
    let spelled : (after (element_flags s) (λ flags. element_form features s flags)).spells bytes x = room_spells _ h in
    let q : (after (element_flags s) (λ flags. element_form features s flags)).rules x = room_rules _ r in
    let same = sym (element_flag features s x.0 spelled.1 x.1 spelled.4) in record {
      tables = p.tables;
      globals = p.globals;
      elements = each_push (λ (e : Element). ItemsBelow (type_count s) e.items) s.filled.elements (element_of x.1) p.elements
          (form_named features s x.1 (subst (λ (n : ℕ). (element_form features s n).rules x.1) same q.1));
      pages = p.pages;
    }

memory_named : (s : State) (x : MemoryType) → (memory_entry s).rules x → AreNamed s.filled → AreNamed (add_memory s x).filled
memory_named s x r p =
    record { tables = p.tables; globals = p.globals; elements = p.elements; pages = each_push (λ (x : Memory). IsPageSize x.page_size_log2) s.filled.memories (memory_of x None) p.pages (page_is x.0 x.1 _ r) }

pub names_kept : (features : WasmFeatures) → EntriesKeep features AreNamed
names_kept features = record {
  customs = λ _ s x h. record { tables = h.tables; globals = h.globals; elements = h.elements; pages = h.pages };
  groups = λ s bytes x _ r h. group_named s x h;
  imports = import_named features;
  functions = λ s bytes x _ r h. record { tables = h.tables; globals = h.globals; elements = h.elements; pages = h.pages };
  tables = table_named features;
  memories = λ s bytes x _ r h. memory_named s x r h;
  tags = λ s bytes x _ r h. record { tables = h.tables; globals = h.globals; elements = h.elements; pages = h.pages };
  globals = λ s bytes x _ r h. global_named features s x r h;
  exports = λ s bytes x _ r h. record { tables = h.tables; globals = h.globals; elements = h.elements; pages = h.pages };
  start = λ s n r h. record { tables = h.tables; globals = h.globals; elements = h.elements; pages = h.pages };
  elements = element_named features;
  segments = λ s bytes x _ r h. record { tables = h.tables; globals = h.globals; elements = h.elements; pages = h.pages };
}

pub none_named : AreNamed empty
none_named = record { tables = tt; globals = tt; elements = tt; pages = tt }

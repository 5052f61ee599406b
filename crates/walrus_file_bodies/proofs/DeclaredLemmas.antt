-- Lemmas: no type of a file is an entry type.
use Rattle.std.proofs.Common.{◌≡◌, ◌∙◌, ℕ, zero, suc, Bool, false, List, [], ◌∷◌, ◌++◌, slice_get, Option, Some, None, refl, sym, ap, subst, inl, inr}
use Rattle.std.specs.Option.{option_map}
use Rattle.std.specs.List.{AllByRecursion, cons_option, filter_map, flat_map}
use Rattle.walrus_items_into.specs.walrus_functions_into.walrus_types_into.wasm_ruled_modules.Keeping.{EntriesKeep, file_kept}
use Rattle.walrus_items_into.specs.walrus_tables_into.walrus_sections_into.walrus_collections.walrus_local_function.walrus_body_locals.walrus_body_nesting.wasm_formats.wasm_features.declared.WasmFeatures.{WasmFeatures}
use Rattle.walrus_items_into.specs.walrus_tables_into.walrus_sections_into.walrus_collections.walrus_local_function.walrus_body_locals.wasm_grammar.States.{State, types_of}
use Rattle.walrus_items_into.specs.walrus_tables_into.walrus_sections_into.walrus_forms.Forms.{Form}
use Rattle.walrus_items_into.specs.walrus_tables_into.walrus_sections_into.walrus_forms.Kinds.{Kind, declared_kind}
use Rattle.walrus_items_into.specs.walrus_tables_into.walrus_sections_into.walrus_forms.Records.{TypeGroup}
use Rattle.walrus_items_into.specs.wasm_sections.TypeNames.{kind_of}
use Rattle.walrus_items_into.specs.wasm_sections.TypeSection.{Measured, members, type_group}
use Rattle.walrus_items_into.specs.wasm_sections.Entities.{Entity, FunctionOf, TableOf, MemoryOf, GlobalOf, TagOf, ImportEntry, add_entity, with_import, import_of, TableEntry, add_table}
use Rattle.walrus_items_into.specs.wasm_sections.Laws.{ReadsSections}

abbrev pub Plain : List Kind → Type 0
Plain = AllByRecursion (λ (k : Kind). k.entry ≡ false)

abbrev pub AreDeclared : List TypeGroup → Type 0
AreDeclared = AllByRecursion (λ (g : TypeGroup). Plain g.kinds)

one_declared : (o : Option Form) (final : Bool) (super : Option ℕ) (kinds : List Kind) → Plain kinds → Plain (cons_option (option_map (λ form. declared_kind form final super) o) kinds)
one_declared None final super kinds h = h
one_declared (Some form) final super kinds h = (refl, h)

members_declared : (xs : List Measured) → Plain (filter_map (λ (x : Measured). kind_of x.1) xs)
members_declared [] = tt
members_declared (x ∷ xs) = one_declared _ _ _ (filter_map (λ (x : Measured). kind_of x.1) xs) (members_declared xs)

declared_more : (groups : List TypeGroup) (g : TypeGroup) → AreDeclared groups → Plain g.kinds → AreDeclared (groups ++ g ∷ [])
declared_more [] g h p = (p, tt)
declared_more (x ∷ groups) g h p = (h.0, declared_more groups g h.1 p)

import_keeps : (s : State) (e : Entity) (x : ImportEntry) (n : ℕ) → AreDeclared s.filled.groups → AreDeclared (add_entity (with_import s (import_of s x)) n e).filled.groups
import_keeps s (FunctionOf ty) x n h = h
import_keeps s (TableOf ty) x n h = h
import_keeps s (MemoryOf ty) x n h = h
import_keeps s (GlobalOf ty) x n h = h
import_keeps s (TagOf ty) x n h = h

table_keeps : (s : State) (x : TableEntry) → AreDeclared s.filled.groups → AreDeclared (add_table s x).filled.groups
table_keeps s (inl x) h = h
table_keeps s (inr ty) h = h

declared_kept : (features : WasmFeatures) → EntriesKeep features (λ m. AreDeclared m.groups)
declared_kept features = record {
  customs = λ _ s x h. h;
  groups = λ s bytes x _ r h. declared_more s.filled.groups (type_group x) h (members_declared (members x));
  imports = λ s bytes x _ r h. import_keeps s x.1.1.1 x _ h;
  functions = λ s bytes x _ r h. h;
  tables = λ s bytes x _ r h. table_keeps s x h;
  memories = λ s bytes x _ r h. h;
  tags = λ s bytes x _ r h. h;
  globals = λ s bytes x _ r h. h;
  exports = λ s bytes x _ r h. h;
  start = λ s n r h. h;
  elements = λ s bytes x _ r h. h;
  segments = λ s bytes x _ r h. h;
}

pub read_types_are_declared : (features : WasmFeatures) (bytes : List ℕ) (s : State) → ReadsSections features bytes s → AreDeclared s.filled.groups
read_types_are_declared features bytes s h =
    let kept = file_kept features (λ m. AreDeclared m.groups) (declared_kept features) tt bytes h.0 h.1.0 h.1.1 in
    subst (λ (s : State). AreDeclared s.filled.groups) h.2 kept

-- ---- each by its index

abbrev ArePlain : List Kind → Type 0
ArePlain kinds = (n : ℕ) (k : Kind) → slice_get kinds n ≡ Some k → k.entry ≡ false

some_is : (x y : Kind) → Some x ≡ Some y → x ≡ y
some_is x y e = cc

plain_in : (xs ys : List Kind) → Plain xs → ArePlain ys → ArePlain (xs ++ ys)
plain_in [] ys p h n k e = h n k e
plain_in (x ∷ xs) ys p h zero k e = ap (λ (k : Kind). k.entry) (sym (some_is x k e)) ∙ p.0
plain_in (x ∷ xs) ys p h (suc n) k e = plain_in xs ys p.1 h n k e

plain_at : (groups : List TypeGroup) → AreDeclared groups → ArePlain (flat_map (λ (g : TypeGroup). g.kinds) groups)
plain_at [] h n k e = absurd cc
plain_at (g ∷ groups) h n k e = plain_in g.kinds (flat_map (λ (g : TypeGroup). g.kinds) groups) h.0 (plain_at groups h.1) n k e

pub read_types_are_plain : (features : WasmFeatures) (bytes : List ℕ) (s : State) → ReadsSections features bytes s → (n : ℕ) (k : Kind) → slice_get (types_of s.filled) n ≡ Some k → k.entry ≡ false
read_types_are_plain features bytes s h = plain_at s.filled.groups (read_types_are_declared features bytes s h)

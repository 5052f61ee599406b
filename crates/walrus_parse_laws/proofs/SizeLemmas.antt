-- Lemmas: where addresses have 32 bits, the sizes of tables and memories of a file are below 2^32.
use Rattle.std.specs.Prelude.{ℕ, ◌^◌, ◌<◌, ◌≡◌, Bool, true, false, List, [], ◌∷◌, length, map, Option, Some, None, IfSome}
use Rattle.std.specs.Option.{option_map}
use Rattle.std.proofs.Common.{sym, subst, inl, inr, ◌∙◌}
use Rattle.walrus_named_bodies.specs.walrus_file_bodies.walrus_items_into.walrus_module_env.walrus_handler_types.walrus_body_steps.wasm_body_grammar.wasm_formats.Bytes.{either_type}
use Rattle.walrus_named_bodies.specs.walrus_file_bodies.walrus_items_into.walrus_module_env.walrus_handler_types.walrus_body_steps.wasm_body_grammar.wasm_formats.Joined.{built}
use Rattle.walrus_named_bodies.specs.walrus_file_bodies.walrus_items_into.walrus_module_env.walrus_handler_types.walrus_body_steps.wasm_body_grammar.wasm_formats.Parts.{nothing, some_once}
use Rattle.walrus_named_bodies.specs.walrus_file_bodies.walrus_items_into.walrus_module_env.walrus_handler_types.walrus_body_steps.wasm_body_grammar.wasm_formats.Led.{led}
use Rattle.walrus_named_bodies.specs.walrus_file_bodies.walrus_items_into.walrus_module_env.walrus_handler_types.walrus_body_steps.wasm_body_grammar.wasm_formats.Wholes.{u32}
use Rattle.walrus_named_bodies.specs.walrus_file_bodies.walrus_items_into.walrus_module_env.walrus_handler_types.walrus_body_steps.wasm_body_grammar.wasm_formats.wasm_features.declared.WasmFeatures.{WasmFeatures}
use Rattle.walrus_named_bodies.specs.walrus_file_bodies.walrus_items_into.walrus_module_env.walrus_handler_types.walrus_body_steps.wasm_body_grammar.wasm_grammar.Modules as grammar
use Rattle.walrus_named_bodies.specs.walrus_file_bodies.walrus_items_into.walrus_module_env.walrus_handler_types.walrus_body_steps.wasm_body_grammar.wasm_grammar.States.{State}
use Rattle.walrus_named_bodies.specs.walrus_file_bodies.walrus_items_into.walrus_module_env.walrus_handler_types.walrus_body_steps.wasm_body_grammar.wasm_grammar.Values.{Limits, has_maximum, is_wide, limits, memory_limits, size, table_limits, u64}
use Rattle.walrus_named_bodies.specs.walrus_file_bodies.walrus_items_into.wasm_module_rules.Keeps.{each_push}
use Rattle.walrus_named_bodies.specs.walrus_file_bodies.walrus_items_into.wasm_module_rules.Linked.{Each}
use Rattle.walrus_named_bodies.specs.walrus_file_bodies.walrus_items_into.wasm_module_rules.Reading.{entity_kind, kind_number}
use Rattle.walrus_named_bodies.specs.walrus_file_bodies.walrus_items_into.wasm_module_rules.wasm_modules.Modules.{Reads, module_of}
use Rattle.walrus_body_laws.specs.walrus_pairing.wasm_operators.wasm_reader.Spelled.{spelled_unsigned}
use Rattle.wasm_import_links.specs.wasm_ruled_modules.Keeping.{EntriesKeep, file_kept}
use Rattle.wasm_import_links.specs.wasm_ruled_modules.Named.{room_spells}
use Rattle.walrus_named_bodies.specs.walrus_file_bodies.walrus_items_into.wasm_sections.Entities.{Entity, FunctionOf, TableOf, MemoryOf, GlobalOf, TagOf, ImportEntry, MemoryType, TableEntry, TableType, add_entity, add_import, add_memory, add_table, entity, import_entry, import_of, initialised, memory_entry, memory_of, memory_once, table_apart, table_entry, table_of, table_once, table_some, table_type, table_wants, with_import}
use Rattle.walrus_parse_laws.specs.Means.{AreSized, IsSmall}

-- ---- limits

size_small : (c : Bool) (n : ℕ) (bytes : List ℕ) → either_type c (u64.spells bytes n) (u32.spells bytes n) → c ≡ false → n < 2 ^ 32
size_small true n bytes h e = absurd cc
size_small false n bytes h e = spelled_unsigned 32 bytes n h

maximum_small : (c : Bool) (flags : ℕ) (o : Option ℕ) (bytes : List ℕ)
    → either_type c ((built (size flags) (λ x. Some x) some_once).spells bytes o) ((nothing {A = Option ℕ} None).spells bytes o) → is_wide flags ≡ false → IfSome o (λ n. n < 2 ^ 32)
maximum_small true flags o bytes h e = subst (λ (p : Option ℕ). IfSome p (λ n. n < 2 ^ 32)) h.1 (size_small (is_wide flags) h.0 bytes h.2 e)
maximum_small false flags o bytes h e = subst (λ (p : Option ℕ). IfSome p (λ n. n < 2 ^ 32)) h.1 tt

limits_small : (bound : ℕ) (l : Limits) (bytes : List ℕ) → (limits bound).spells bytes l → IsSmall (is_wide l.0) l.1.0 l.1.1
limits_small bound l bytes h = λ e.
    let sizes = h.4 in
    (size_small (is_wide l.0) l.1.0 sizes.0 sizes.3 e, maximum_small (has_maximum l.0) l.0 l.1.1 sizes.1 sizes.4 e)

abbrev IsTableType : TableType → Type 0
IsTableType ty = IsSmall (is_wide ty.1.0) ty.1.1.0 ty.1.1.1

abbrev IsMemoryType : MemoryType → Type 0
IsMemoryType ty = IsSmall (is_wide ty.0.0) ty.0.1.0 ty.0.1.1

table_small : (features : WasmFeatures) (s : State) (ty : TableType) (bytes : List ℕ) → (table_type features s).spells bytes ty → IsTableType ty
table_small features s ty bytes h = let limited : table_limits.spells h.1 ty.1 = h.4 in limits_small 8 ty.1 h.1 limited

-- ---- entries

abbrev pub TableSmall : grammar.Table → Type 0
TableSmall t = IsSmall t.wide t.initial t.maximum

abbrev pub MemorySmall : grammar.Memory → Type 0
MemorySmall x = IsSmall x.wide x.initial x.maximum

entity_small : (features : WasmFeatures) (s t : State) (n : ℕ) (e : Entity) (bytes : List ℕ) → (entity features s (kind_number e)).spells bytes e → AreSized t.filled → AreSized (add_entity t n e).filled
entity_small features s t n (FunctionOf ty) bytes h p = record { tables = p.tables; memories = p.memories }
entity_small features s t n (TableOf ty) bytes h p =
    let small : IsTableType ty = subst IsTableType (table_once h.0 ty h.1) (table_small features s h.0 bytes h.2) in
    record { tables = each_push TableSmall t.filled.tables (table_of ty None (Some n)) p.tables small; memories = p.memories }
entity_small features s t n (MemoryOf ty) bytes h p =
    let spelled : (memory_limits None).spells bytes h.0 = h.2 in
    let small : IsMemoryType ty = subst IsMemoryType (memory_once h.0 ty h.1) (limits_small 16 h.0.0 spelled.0 spelled.3) in
    record { tables = p.tables; memories = each_push MemorySmall t.filled.memories (memory_of ty (Some n)) p.memories small }
entity_small features s t n (GlobalOf ty) bytes h p = record { tables = p.tables; memories = p.memories }
entity_small features s t n (TagOf ty) bytes h p = record { tables = p.tables; memories = p.memories }

import_small : (features : WasmFeatures) (s : State) (bytes : List ℕ) (x : ImportEntry) → (import_entry features s).spells bytes x → (import_entry features s).rules x → AreSized s.filled → AreSized (add_import s x).filled
import_small features s bytes x h r p =
    let a = h.4 in let b = a.4 in
    let e = x.1.1.1 in
    let spelled = subst (λ (k : ℕ). (entity features s k).spells b.1 e) (sym (entity_kind features s x.1.1.0 b.1 e b.4)) b.4 in
    entity_small features s (with_import s (import_of s x)) (length s.filled.imports) e b.1 spelled (record { tables = p.tables; memories = p.memories })

table_sized : (features : WasmFeatures) (s : State) (bytes : List ℕ) (x : TableEntry) → (table_entry features s).spells bytes x → (table_entry features s).rules x → AreSized s.filled → AreSized (add_table s x).filled
table_sized features s bytes (inl x) h r p =
    let spelled : (led 0x40 (initialised features s) (table_type features s) (table_apart features s) (table_some features s) (table_wants features s)).spells bytes (inl x) = room_spells _ h in
    let inner : (initialised features s).spells spelled.0 x = spelled.2 in
    let both = inner.4 in
    record { tables = each_push TableSmall s.filled.tables (table_of x.1.0 (Some x.1.1) None) p.tables (table_small features s x.1.0 both.0 both.3); memories = p.memories }
table_sized features s bytes (inr ty) h r p =
    let spelled : (led 0x40 (initialised features s) (table_type features s) (table_apart features s) (table_some features s) (table_wants features s)).spells bytes (inr ty) = room_spells _ h in
    record { tables = each_push TableSmall s.filled.tables (table_of ty None None) p.tables (table_small features s ty bytes spelled); memories = p.memories }

memory_sized : (s : State) (bytes : List ℕ) (x : MemoryType) → (memory_entry s).spells bytes x → (memory_entry s).rules x → AreSized s.filled → AreSized (add_memory s x).filled
memory_sized s bytes x h r p =
    record { tables = p.tables; memories = each_push MemorySmall s.filled.memories (memory_of x None) p.memories (limits_small 16 x.0 h.0 h.3) }

-- ---- files

sizes_kept : (features : WasmFeatures) → EntriesKeep features AreSized
sizes_kept features = record {
  customs = λ _ s x h. record { tables = h.tables; memories = h.memories };
  groups = λ s bytes x _ r h. record { tables = h.tables; memories = h.memories };
  imports = import_small features;
  functions = λ s bytes x _ r h. record { tables = h.tables; memories = h.memories };
  tables = table_sized features;
  memories = memory_sized;
  tags = λ s bytes x _ r h. record { tables = h.tables; memories = h.memories };
  globals = λ s bytes x _ r h. record { tables = h.tables; memories = h.memories };
  exports = λ s bytes x _ r h. record { tables = h.tables; memories = h.memories };
  start = λ s n r h. record { tables = h.tables; memories = h.memories };
  elements = λ s bytes x _ r h. record { tables = h.tables; memories = h.memories };
  segments = λ s bytes x _ r h. record { tables = h.tables; memories = h.memories };
}

pub files_are_sized : (features : WasmFeatures) (bytes : List ℕ) (m : grammar.Module) → Reads features bytes m → AreSized m
files_are_sized features bytes m h =
    let s = h.1.0 in
    let xs = h.1.1 in
    let reads = h.1.2 in
    let kept = file_kept features AreSized (sizes_kept features) (record { tables = tt; memories = tt }) bytes reads.0 reads.1.0 reads.1.1 in
    let there = subst (λ (t : State). AreSized t.filled) reads.2 kept in
    subst AreSized h.1.4 (sized_with s xs there)
  where
    sized_with : (s : State) (xs : List grammar.Body) → AreSized s.filled → AreSized (module_of s xs)
    sized_with s xs p = record { tables = p.tables; memories = p.memories }

-- retyped tables are as large
pub tables_stay : (f : grammar.Table → grammar.Table) → ((t : grammar.Table) → (f t).wide ≡ t.wide) → ((t : grammar.Table) → (f t).initial ≡ t.initial) → ((t : grammar.Table) → (f t).maximum ≡ t.maximum)
    → (ts : List (Option grammar.Table)) → Each TableSmall ts → Each TableSmall (map (option_map f) ts)
tables_stay f w i m [] h = tt
tables_stay f w i m (None ∷ ts) h = tables_stay f w i m ts h
tables_stay f w i m (Some t ∷ ts) h = (
  (λ e. let small = h.0 (sym (w t) ∙ e) in (subst (λ (n : ℕ). n < 2 ^ 32) (sym (i t)) small.0, subst (λ (o : Option ℕ). IfSome o (λ n. n < 2 ^ 32)) (sym (m t)) small.1)),
  tables_stay f w i m ts h.1,
)

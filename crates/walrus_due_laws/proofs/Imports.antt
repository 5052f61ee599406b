-- Lemmas: what is due for imports.
use Rattle.std.specs.Prelude.{ℕ, ◌≡◌, true, List, ◌∷◌, ◌++◌, length, map, filter, Option, Some, None, refl}
use Rattle.std.proofs.Common.{ap, sym}
use Rattle.wasm_formats.specs.declared.fault.Limited.TheVariants as limits_of
use Rattle.wasm_formats.specs.declared.fault.Space.{Space}
use Rattle.wasm_formats.specs.declared.fault.Space.TheVariants as spaces
use Rattle.wasm_operators.specs.Bytes.{unsigned_bytes}
use Rattle.wasm_operators.specs.Items as items
use Rattle.wasm_operators.specs.Names.{Renaming}
use Rattle.wasm_grammar.specs.Modules.{Function, Table, Memory, Tag, Global, Import, Module}
use Rattle.wasm_grammar.specs.States.{nothing_yet}
use Rattle.wasm_sections.specs.Sections.{ImportSection}
use Rattle.wasm_section_bytes.specs.Segments.{sized_bytes}
use Rattle.wasm_module_bytes.specs.Due.{space_kind as kind_from}
use Rattle.wasm_canonical.specs.Due.{entity_due, entry, function_due, global_due, import_due, items_in, memory_due, section_if, table_due, tag_due}
use Rattle.wasm_part.specs.Part.{number_in as new_number, renumbered_function, renumbered_global, renumbered_import, renumbered_memory, renumbered_table, renumbered_tag}
use Rattle.walrus_errors.specs.declared.error.ModuleError.TheVariants.{NotLinked}
use Rattle.walrus_pairing.specs.Looks.{Look}
use Rattle.walrus_emit_parts.specs.Due.{Due}
use Rattle.walrus_emit_due.specs.Own.{live, own_section}
use Rattle.walrus_emit_due.specs.Slots.{live_at}
use Rattle.walrus_emit_due.specs.Items.{global_type, memory, space_kind, table_type, tag}
use Rattle.walrus_emit_due.specs.Imports as due
use Rattle.walrus_due_laws.specs.Spelled.{Follows, SpelledAs, in_slots, spelled}
use Rattle.walrus_due_laws.specs.Imports.{ImportsAreSpelled, StandsIn}
use Rattle.walrus_due_laws.proofs.Parts.{both, lacks, led, turned, within}
use Rattle.walrus_due_laws.proofs.Lists.{all_each, entries_as}
use Rattle.walrus_due_laws.proofs.Plain.{entity_bytes, entry_plain, import_bytes}
use Rattle.walrus_due_laws.proofs.Values.{index_as}
use Rattle.walrus_due_laws.proofs.Tables.{table_type_as}
use Rattle.walrus_due_laws.proofs.Memories.{memory_as}
use Rattle.walrus_due_laws.proofs.Tags.{tag_as}
use Rattle.walrus_due_laws.proofs.Globals.{global_type_as}
use Rattle.walrus_due_laws.proofs.Exports.{kinds_same, name_as}

-- what lives, and stands at its new number
linked_as : {A : Type 0} (type_due : A → Due) (f : A → A) (of : Option A → List ℕ) → ((x : A) → SpelledAs (type_due x) (of (Some (f x)))) → (old new : Option A)
    → ((x : A) → old ≡ Some x → new ≡ Some (f x)) → SpelledAs (due.linked type_due old) (of new)
linked_as type_due f of each None new stands = lacks NotLinked (of new)
linked_as type_due f of each (Some x) new stands = turned (type_due x) (of (Some (f x))) (of new) (ap of (sym (stands x refl))) (each x)

module _ (r : Renaming) (brings : ℕ → ℕ) (look : Look) (m n : Module) (follows : Follows r look) where
  function_as : (f : Function) → SpelledAs (due.function_type look f) (unsigned_bytes (r items.Types f.ty))
  function_as f = index_as r look follows spaces.«Type» items.Types f.ty

  type_as : (space : Space) (id : ℕ) → StandsIn r brings m n space id → SpelledAs (due.type_at look m space id) (entity_bytes (kind_from space) (entity_due n space (new_number r space id)))
  type_as spaces.Function id stands =
      linked_as (due.function_type look) (renumbered_function r brings) (λ (o : Option Function). entity_bytes 0 (function_due o)) function_as (live_at m.functions id) (live_at n.functions (r items.Functions id)) stands
  type_as spaces.Table id stands =
      linked_as (table_type look) (renumbered_table r brings) (λ (o : Option Table). entity_bytes 1 (table_due o)) (table_type_as r look follows brings) (live_at m.tables id) (live_at n.tables (r items.Tables id)) stands
  type_as spaces.Memory id stands =
      linked_as memory (renumbered_memory r brings) (λ (o : Option Memory). entity_bytes 2 (memory_due o)) memory_as (live_at m.memories id) (live_at n.memories (r items.Memories id)) stands
  type_as spaces.Global id stands =
      linked_as (global_type look) (renumbered_global r brings) (λ (o : Option Global). entity_bytes 3 (global_due o)) (global_type_as r look follows brings) (live_at m.globals id) (live_at n.globals (r items.Globals id)) stands
  type_as spaces.Tag id stands =
      linked_as (tag look) (renumbered_tag r brings) (λ (o : Option Tag). entity_bytes 4 (tag_due o)) (tag_as r look follows) (live_at m.tags id) (live_at n.tags (r items.Tags id)) stands
  type_as spaces.«Type» id stands = absurd stands
  type_as spaces.Element id stands = absurd stands
  type_as spaces.Data id stands = absurd stands
  type_as spaces.Local id stands = absurd stands
  type_as spaces.Label id stands = absurd stands

  entity_as : (space : Space) (id : ℕ) → StandsIn r brings m n space id
      → SpelledAs (due.entity look m space id) (kind_from space ∷ entity_bytes (kind_from space) (entity_due n space (new_number r space id)))
  entity_as space id stands =
      let ty = entity_bytes (kind_from space) (entity_due n space (new_number r space id)) in
      turned (due.entity look m space id) (space_kind space ∷ ty) (kind_from space ∷ ty) (ap (λ (k : ℕ). k ∷ ty) (kinds_same space))
      (led (space_kind space) (due.type_at look m space id) ty (type_as space id stands))

  import_as : (i : Import) → StandsIn r brings m n i.item.space i.item.number → SpelledAs (due.import look m i) (import_bytes (import_due n (renumbered_import r i)))
  import_as i stands =
      let entity = due.entity look m i.item.space i.item.number in
      let bytes = kind_from i.item.space ∷ entity_bytes (kind_from i.item.space) (entity_due n i.item.space (new_number r i.item.space i.item.number)) in
      both (due.name i.space_name) (due.name i.name ++ entity) (sized_bytes i.space_name) (sized_bytes i.name ++ bytes) (name_as i.space_name)
      (both (due.name i.name) entity (sized_bytes i.name) bytes (name_as i.name) (entity_as i.item.space i.item.number stands))

pub imports_spelled : ImportsAreSpelled
imports_spelled features r brings look m n follows stand =
    let all = λ (i : Import). true in
    let entries = map (import_due n) (items_in (in_slots (renumbered_import r) m.imports)) in
    within 1000000 (length (live m.imports)) limits_of.Imports (own_section 2 all (due.import look m) m.imports) (spelled features (section_if ImportSection entries))
    (entries_as (due.import look m) import_bytes features 2 ImportSection (λ es. entry_plain features nothing_yet (entry (ImportSection es))) (filter all (live m.imports)) entries
    (all_each (due.import look m) import_bytes (λ (i : Import). StandsIn r brings m n i.item.space i.item.number) (import_due n) (renumbered_import r) (import_as r brings look m n follows) m.imports stand))

-- Lemmas: what is due for exports.
use Rattle.std.specs.Prelude.{ℕ, ◌≡◌, true, List, [], ◌∷◌, ◌++◌, length, map, filter, refl}
use Rattle.std.proofs.Common.{ap, sym}
use Rattle.std.proofs.lemmas.List.{append_assoc}
use Rattle.wasm_formats.specs.declared.fault.Limited.TheVariants as limits_of
use Rattle.wasm_formats.specs.declared.fault.Space.{Space}
use Rattle.wasm_formats.specs.declared.fault.Space.TheVariants as spaces
use Rattle.wasm_operators.specs.Bytes.{unsigned_bytes}
use Rattle.wasm_operators.specs.Items as items
use Rattle.wasm_operators.specs.Names.{Renaming}
use Rattle.wasm_grammar.specs.Modules.{Export}
use Rattle.wasm_grammar.specs.States.{nothing_yet}
use Rattle.wasm_sections.specs.Sections.{ExportSection}
use Rattle.wasm_section_bytes.specs.Segments.{sized_bytes}
use Rattle.wasm_module_bytes.specs.Due.{export_from, space_kind as kind_from}
use Rattle.wasm_canonical.specs.Due.{entry, items_in, section_if}
use Rattle.wasm_part.specs.Part.{number_in as new_number, renumbered_export}
use Rattle.walrus_pairing.specs.Looks.{Look}
use Rattle.walrus_emit_parts.specs.Due.{limited, text}
use Rattle.walrus_emit_due.specs.Values.{index}
use Rattle.walrus_emit_due.specs.Own.{live, own_section}
use Rattle.walrus_emit_due.specs.Items.{export, kind_index, number_in, space_kind}
use Rattle.walrus_due_laws.specs.Spelled.{Follows, SpelledAs, in_slots, spelled}
use Rattle.walrus_due_laws.specs.Exports.{ExportsAreSpelled}
use Rattle.walrus_due_laws.proofs.Parts.{both, led, text_as, turned, within}
use Rattle.walrus_due_laws.proofs.Lists.{all_each, each_any, entries_as}
use Rattle.walrus_due_laws.proofs.Plain.{entry_plain, export_bytes}
use Rattle.walrus_due_laws.proofs.Values.{Leads, index_at, named}

pub kinds_same : (space : Space) → space_kind space ≡ kind_from space
kinds_same spaces.«Type» = refl
kinds_same spaces.Function = refl
kinds_same spaces.Table = refl
kinds_same spaces.Memory = refl
kinds_same spaces.Tag = refl
kinds_same spaces.Global = refl
kinds_same spaces.Element = refl
kinds_same spaces.Data = refl
kinds_same spaces.Local = refl
kinds_same spaces.Label = refl

-- a name of at most 100,000 bytes
pub name_as : (bytes : List ℕ) → SpelledAs (limited 100000 (length bytes) limits_of.String (text bytes)) (sized_bytes bytes)
name_as bytes = within 100000 (length bytes) limits_of.String (text bytes) (sized_bytes bytes) (text_as bytes)

module _ (r : Renaming) (look : Look) (follows : Follows r look) where
  numbered : (space : Space) (id : ℕ) → Leads (number_in look space id) (new_number r space id)
  numbered spaces.«Type» id = named r look follows items.Types id
  numbered spaces.Function id = named r look follows items.Functions id
  numbered spaces.Table id = named r look follows items.Tables id
  numbered spaces.Memory id = named r look follows items.Memories id
  numbered spaces.Tag id = named r look follows items.Tags id
  numbered spaces.Global id = named r look follows items.Globals id
  numbered spaces.Element id = named r look follows items.ElementSegments id
  numbered spaces.Data id = named r look follows items.DataSegments id
  numbered spaces.Local id = λ k e. absurd cc
  numbered spaces.Label id = λ k e. absurd cc

  kind_index_as : (space : Space) (id : ℕ) → SpelledAs (kind_index look space id) (kind_from space ∷ unsigned_bytes (new_number r space id))
  kind_index_as space id =
      let number = unsigned_bytes (new_number r space id) in
      turned (kind_index look space id) (space_kind space ∷ number) (kind_from space ∷ number) (ap (λ (k : ℕ). k ∷ number) (kinds_same space))
      (led (space_kind space) (index space (number_in look space id)) number (index_at space (number_in look space id) (new_number r space id) (numbered space id)))

  export_as : (e : Export) → SpelledAs (export look e) (export_bytes (export_from (renumbered_export r e)))
  export_as e =
      let name = sized_bytes e.name in
      let number = unsigned_bytes (new_number r e.item.space e.item.number) in
      let kind = kind_from e.item.space in
      turned (export look e) (name ++ (kind ∷ number)) ((name ++ kind ∷ []) ++ number) (sym (append_assoc name (kind ∷ []) number))
      (both (limited 100000 (length e.name) limits_of.String (text e.name)) (kind_index look e.item.space e.item.number) name (kind ∷ number) (name_as e.name) (kind_index_as e.item.space e.item.number))

pub exports_spelled : ExportsAreSpelled
exports_spelled features r look slots follows =
    let all = λ (e : Export). true in
    let entries = map export_from (items_in (in_slots (renumbered_export r) slots)) in
    within 1000000 (length (live slots)) limits_of.Exports (own_section 7 all (export look) slots) (spelled features (section_if ExportSection entries))
    (entries_as (export look) export_bytes features 7 ExportSection (λ es. entry_plain features nothing_yet (entry (ExportSection es))) (filter all (live slots)) entries
    (all_each (export look) export_bytes (λ (e : Export). Unit {0}) export_from (renumbered_export r) (λ e _. export_as r look follows e) slots (each_any slots)))

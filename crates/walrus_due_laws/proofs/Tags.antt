-- Lemmas: what is due for tags.
use Rattle.std.specs.Prelude.{ℕ, length, filter, Option, Some, None, refl}
use Rattle.std.specs.List.{filter_map}
use Rattle.std.specs.Option.{is_none, option_map}
use Rattle.wasm_formats.specs.declared.fault.Limited.TheVariants as limits_of
use Rattle.wasm_formats.specs.declared.fault.Space.TheVariants as spaces
use Rattle.wasm_operators.specs.Bytes.{unsigned_bytes}
use Rattle.wasm_operators.specs.Items as items
use Rattle.wasm_operators.specs.Names.{Renaming}
use Rattle.wasm_grammar.specs.Modules.{Tag}
use Rattle.wasm_grammar.specs.States.{nothing_yet}
use Rattle.wasm_sections.specs.Sections.{TagSection}
use Rattle.wasm_canonical.specs.Due.{entry, if_own, own_tag, section_if}
use Rattle.wasm_part.specs.Part.{renumbered_tag}
use Rattle.walrus_pairing.specs.Looks.{Look}
use Rattle.walrus_emit_due.specs.Values.{index}
use Rattle.walrus_emit_due.specs.Own.{live, own_section}
use Rattle.walrus_emit_due.specs.Items.{tag}
use Rattle.walrus_due_laws.specs.Spelled.{Follows, SpelledAs, in_slots, spelled}
use Rattle.walrus_due_laws.specs.Tags.{TagsAreSpelled}
use Rattle.walrus_due_laws.proofs.Parts.{led, within}
use Rattle.walrus_due_laws.proofs.Lists.{EntryAs, entries_as, own_each}
use Rattle.walrus_due_laws.proofs.Plain.{entry_plain, tag_bytes}
use Rattle.walrus_due_laws.proofs.Values.{index_as}

module _ (r : Renaming) (look : Look) (follows : Follows r look) where
  pub tag_as : (t : Tag) → SpelledAs (tag look t) (tag_bytes (tt, r items.Types t.ty))
  tag_as t = led 0x00 (index spaces.«Type» (look items.Types t.ty)) (unsigned_bytes (r items.Types t.ty)) (index_as r look follows spaces.«Type» items.Types t.ty)

  entry_made_as : (brings : ℕ → ℕ) (t : Tag) (imported : Option ℕ) → EntryAs tag_bytes (is_none imported) (tag look t) (if_own (option_map brings imported) (tt, r items.Types t.ty))
  entry_made_as brings t (Some n) = tt
  entry_made_as brings t None = tag_as t

pub tags_spelled : TagsAreSpelled
tags_spelled features r brings look slots follows =
    let own = λ (t : Tag). is_none t.imported in
    let entries = filter_map own_tag (in_slots (renumbered_tag r brings) slots) in
    within 1000000 (length (live slots)) limits_of.Tags (own_section 13 own (tag look) slots) (spelled features (section_if TagSection entries))
    (entries_as (tag look) tag_bytes features 13 TagSection (λ es. entry_plain features nothing_yet (entry (TagSection es))) (filter own (live slots)) entries
    (own_each (tag look) tag_bytes own own_tag (renumbered_tag r brings) refl (λ t. entry_made_as r look follows brings t t.imported) slots))

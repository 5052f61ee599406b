use Rattle.walrus_known_sections.specs.wasm_sections.wasm_grammar.wasm_formats.declared.fault.Limited.TheVariants as limited
use Rattle.walrus_known_sections.specs.wasm_sections.wasm_grammar.wasm_formats.declared.fault.Space.TheVariants as spaces
use Rattle.walrus_known_sections.specs.wasm_sections.wasm_grammar.States.{has_room}
use Rattle.walrus_known_sections.specs.wasm_sections.Entities.{tag_type}
use Rattle.walrus_section_reader.specs.Repeats.{unless_memory}
use Rattle.walrus_entry_readers.specs.Entries.{tag_type_of}
use Rattle.walrus_known_sections.specs.State.{state_of}
use Rattle.walrus_known_sections.specs.Leads.{room_read}
use Rattle.walrus_entry_readers.proofs.entities.read_tag.Goals as goal

pub returns : goal.returns
returns c =
    let s = state_of c.args.sections.now in
    room_read limited.Tags (tag_type s) tag_type_of _ _ c.original_position-offset.result (has_room s spaces.Tag) _ _ _ c.original_position-offset.ensures.left c.has_tag_room-room.ensures c.in_room.ensures (unless_memory (tag_type s).parse tag_type_of _ _ _ c.read_tag_type-read.ensures)

use Rattle.std.proofs.Common.{ℕ}
use Rattle.wasm_reader.specs.Reading.{plain}
use Rattle.walrus_entry_readers.specs.walrus_known_sections.wasm_sections.wasm_grammar.wasm_formats.declared.fault.Limited.TheVariants as limited
use Rattle.walrus_entry_readers.specs.walrus_known_sections.wasm_sections.wasm_grammar.wasm_formats.declared.fault.Space.TheVariants as spaces
use Rattle.walrus_entry_readers.specs.walrus_known_sections.wasm_sections.wasm_grammar.wasm_formats.Joined.{after}
use Rattle.walrus_entry_readers.specs.walrus_known_sections.wasm_sections.wasm_grammar.States.{has_room}
use Rattle.walrus_entry_readers.specs.walrus_known_sections.wasm_sections.Segments.{element_flags, element_form}
use Rattle.walrus_entry_readers.specs.walrus_known_sections.Leads.{room_read}
use Rattle.walrus_entry_readers.specs.walrus_known_sections.State.{state_of}
use Rattle.walrus_segment_readers.specs.Segments.{both_of, element_form_of}
use Rattle.walrus_segment_readers.proofs.segments.read_element.Goals as goal

pub returns : goal.returns
returns c =
    let f = c.args.reader.now.window.features in
    let s = state_of c.args.sections.now in
    room_read limited.Elements (after (element_flags s) (λ n. element_form f s n)) (both_of (plain {X = ℕ}) element_form_of) _ _ c.original_position-offset.result (has_room s spaces.Element) _ _ _ c.original_position-offset.ensures.left
    c.has_element_room-room.ensures c.in_room.ensures c.read_own_element-read.ensures

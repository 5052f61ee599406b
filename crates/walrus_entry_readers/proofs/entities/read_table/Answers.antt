use Rattle.walrus_known_sections.specs.wasm_sections.wasm_grammar.wasm_formats.declared.fault.Limited.TheVariants as limited
use Rattle.walrus_known_sections.specs.wasm_sections.wasm_grammar.wasm_formats.declared.fault.Space.TheVariants as spaces
use Rattle.walrus_known_sections.specs.wasm_sections.wasm_grammar.States.{has_room}
use Rattle.walrus_known_sections.specs.wasm_sections.wasm_grammar.wasm_formats.Led.{led}
use Rattle.walrus_known_sections.specs.wasm_sections.Entities.{initialised, table_type, table_apart, table_some, table_wants}
use Rattle.walrus_entry_readers.specs.Entries.{table_entry_of}
use Rattle.walrus_known_sections.specs.State.{state_of}
use Rattle.walrus_known_sections.specs.Leads.{room_read}
use Rattle.walrus_entry_readers.proofs.entities.read_table.Goals as goal

pub returns : goal.returns
returns c =
    let f = c.args.reader.now.window.features in
    let s = state_of c.args.sections.now in
    room_read limited.Tables (led 0x40 (initialised f s) (table_type f s) (table_apart f s) (table_some f s) (table_wants f s)) table_entry_of _ _ c.original_position-offset.result (has_room s spaces.Table) _ _ _ c.original_position-offset.ensures.left c.has_table_room-room.ensures c.in_room.ensures c.read_own_table-read.ensures

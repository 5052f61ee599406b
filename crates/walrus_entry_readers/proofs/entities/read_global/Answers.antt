use Rattle.walrus_known_sections.specs.wasm_sections.wasm_grammar.wasm_formats.declared.fault.Limited.TheVariants as limited
use Rattle.walrus_known_sections.specs.wasm_sections.wasm_grammar.wasm_formats.declared.fault.Space.TheVariants as spaces
use Rattle.walrus_known_sections.specs.wasm_sections.wasm_grammar.States.{has_room}
use Rattle.walrus_known_sections.specs.wasm_sections.wasm_grammar.wasm_formats.Joined.{after}
use Rattle.walrus_known_sections.specs.wasm_sections.wasm_grammar.Exprs.{expr}
use Rattle.walrus_known_sections.specs.wasm_sections.wasm_grammar.States.{known}
use Rattle.walrus_known_sections.specs.wasm_sections.Entities.{global_type}
use Rattle.walrus_entry_readers.specs.Entries.{global_entry_of}
use Rattle.walrus_known_sections.specs.State.{state_of}
use Rattle.walrus_known_sections.specs.Leads.{room_read}
use Rattle.walrus_entry_readers.proofs.entities.read_global.Goals as goal

pub returns : goal.returns
returns c =
    let f = c.args.reader.now.window.features in
    let s = state_of c.args.sections.now in
    room_read limited.Globals (after (global_type f s) (λ _. expr f (known s))) global_entry_of _ _ c.original_position-offset.result (has_room s spaces.Global) _ _ _ c.original_position-offset.ensures.left c.has_global_room-room.ensures c.in_room.ensures c.read_own_global-read.ensures

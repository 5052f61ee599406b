use Rattle.walrus_entry_readers.specs.walrus_known_sections.wasm_sections.wasm_grammar.States.{known}
use Rattle.walrus_entry_readers.specs.walrus_section_values.Globals.{expr_of}
use Rattle.walrus_entry_readers.specs.walrus_known_sections.State.{state_of}
use Rattle.walrus_segment_readers.specs.Segments.{offset_wide}
use Rattle.walrus_segment_readers.proofs.segments.read_into_memory.Goals as goal

pub returns : goal.returns
returns c = offset_wide c.args.reader.now.window.features _ _ (known (state_of c.args.sections.now)) expr_of _ _ _ c.is_memory_wide.ensures c.read_place.ensures

use Rattle.walrus_entry_readers.specs.walrus_known_sections.wasm_sections.Segments.{functions, into_table}
use Rattle.walrus_entry_readers.specs.walrus_section_values.Globals.{expr_of}
use Rattle.walrus_entry_readers.specs.walrus_known_sections.State.{state_of}
use Rattle.walrus_segment_readers.specs.Lists.{numbers_of}
use Rattle.walrus_segment_readers.specs.Segments.{after_joined}
use Rattle.walrus_segment_readers.proofs.segments.read_active_functions.Goals as goal

pub returns : goal.returns
returns c =
    let f = c.args.reader.now.window.features in
    let s = state_of c.args.sections.now in
    after_joined (into_table f s 0) (λ _. functions s) expr_of numbers_of _ _ _ _ _ _ c.joined.ensures c.in_ok-first.ensures c.read_functions-second.ensures

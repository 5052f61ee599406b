use Rattle.std.proofs.Common.{ℕ}
use Rattle.wasm_reader.specs.Reading.{plain}
use Rattle.walrus_entry_readers.specs.walrus_known_sections.wasm_sections.Segments.{data_flags, data_form}
use Rattle.walrus_entry_readers.specs.walrus_section_values.walrus_section_reader.Repeats.{unless_memory}
use Rattle.walrus_entry_readers.specs.walrus_known_sections.Leads.{by_window}
use Rattle.walrus_entry_readers.specs.walrus_known_sections.State.{state_of}
use Rattle.walrus_segment_readers.specs.Segments.{after_joined, data_form_of}
use Rattle.walrus_segment_readers.proofs.segments.read_own_data.Goals as goal

pub returns : goal.returns
returns c =
    let f = c.args.reader.now.window.features in
    let s = state_of c.args.sections.now in
    after_joined (data_flags s) (λ n. data_form f s n) (plain {X = ℕ}) data_form_of _ _ _ _ _ _ c.joined.ensures (unless_memory (data_flags s).parse (plain {X = ℕ}) _ _ _ c.in_ok-first.ensures)
    (by_window (λ f. (data_form f s c.in_ok-first.first).parse) data_form_of c.args.reader.now _ _ _ c.in_ok-first.ensures.moves c.read_data_form-second.ensures)

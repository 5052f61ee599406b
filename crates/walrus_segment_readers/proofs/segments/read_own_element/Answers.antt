use Rattle.std.proofs.Common.{ℕ}
use Rattle.wasm_reader.specs.Reading.{plain}
use Rattle.walrus_entry_readers.specs.walrus_known_sections.wasm_sections.Segments.{element_flags, element_form}
use Rattle.walrus_entry_readers.specs.walrus_section_values.walrus_section_reader.Repeats.{unless_memory}
use Rattle.walrus_entry_readers.specs.walrus_known_sections.Leads.{by_window}
use Rattle.walrus_entry_readers.specs.walrus_known_sections.State.{state_of}
use Rattle.walrus_segment_readers.specs.Segments.{after_joined, element_form_of}
use Rattle.walrus_segment_readers.proofs.segments.read_own_element.Goals as goal

pub returns : goal.returns
returns c =
    let f = c.args.reader.now.window.features in
    let s = state_of c.args.sections.now in
    after_joined (element_flags s) (λ n. element_form f s n) (plain {X = ℕ}) element_form_of _ _ _ _ _ _ c.joined.ensures (unless_memory (element_flags s).parse (plain {X = ℕ}) _ _ _ c.in_ok-first.ensures)
    (by_window (λ f. (element_form f s c.in_ok-first.first).parse) element_form_of c.args.reader.now _ _ _ c.in_ok-first.ensures.moves c.read_element_form-second.ensures)

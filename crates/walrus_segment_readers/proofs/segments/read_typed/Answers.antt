use Rattle.walrus_entry_readers.specs.walrus_known_sections.wasm_sections.Segments.{expressions}
use Rattle.walrus_entry_readers.specs.walrus_known_sections.wasm_sections.wasm_grammar.Values.{ref_type}
use Rattle.walrus_entry_readers.specs.walrus_known_sections.wasm_sections.wasm_grammar.States.{type_count}
use Rattle.walrus_forms.specs.Records.{ref_of}
use Rattle.walrus_entry_readers.specs.walrus_section_values.walrus_section_reader.Repeats.{unless_memory}
use Rattle.walrus_entry_readers.specs.walrus_known_sections.Leads.{by_window}
use Rattle.walrus_entry_readers.specs.walrus_known_sections.State.{state_of}
use Rattle.walrus_segment_readers.specs.Lists.{exprs_of}
use Rattle.walrus_segment_readers.specs.Segments.{after_joined}
use Rattle.walrus_segment_readers.proofs.segments.read_typed.Goals as goal

pub returns : goal.returns
returns c =
    let f = c.args.reader.now.window.features in
    let s = state_of c.args.sections.now in
    after_joined (ref_type f (type_count s)) (λ _. expressions f s) ref_of exprs_of _ _ _ _ _ _ c.joined.ensures (unless_memory (ref_type f (type_count s)).parse ref_of _ _ _ c.in_ok-first.ensures) (by_window (λ f. (expressions f s).parse) exprs_of c.args.reader.now _ _ _ c.in_ok-first.ensures.moves c.read_expressions-second.ensures)

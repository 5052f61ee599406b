use Rattle.walrus_entry_readers.specs.walrus_known_sections.wasm_sections.Segments.{named_table, typed}
use Rattle.wasm_reader.specs.Reading.{plain}
use Rattle.walrus_forms.specs.Records.{ref_of}
use Rattle.walrus_entry_readers.specs.walrus_section_values.Globals.{expr_of}
use Rattle.walrus_entry_readers.specs.walrus_known_sections.Leads.{by_window}
use Rattle.walrus_entry_readers.specs.walrus_known_sections.State.{state_of}
use Rattle.walrus_segment_readers.specs.Lists.{exprs_of}
use Rattle.walrus_segment_readers.specs.Segments.{both_of, after_joined}
use Rattle.std.proofs.Common.{ℕ}
use Rattle.walrus_segment_readers.proofs.segments.read_expressions_into.Goals as goal

pub returns : goal.returns
returns c =
    let f = c.args.reader.now.window.features in
    let s = state_of c.args.sections.now in
    after_joined (named_table f s) (λ _. typed f s) (both_of (plain {X = ℕ}) expr_of) (both_of ref_of exprs_of) _ _ _ _ _ _ c.joined.ensures c.in_ok-first.ensures (by_window (λ f. (typed f s).parse) (both_of ref_of exprs_of) c.args.reader.now _ _ _ c.in_ok-first.ensures.moves c.read_typed-second.ensures)

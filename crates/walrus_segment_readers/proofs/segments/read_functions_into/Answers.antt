use Rattle.walrus_entry_readers.specs.walrus_known_sections.wasm_sections.Segments.{kind_of_functions, named_table}
use Rattle.wasm_reader.specs.Reading.{plain}
use Rattle.walrus_entry_readers.specs.walrus_section_values.Globals.{expr_of}
use Rattle.walrus_entry_readers.specs.walrus_known_sections.State.{state_of}
use Rattle.walrus_segment_readers.specs.Segments.{both_of, kind_of_functions_of, after_joined}
use Rattle.std.proofs.Common.{ℕ}
use Rattle.walrus_segment_readers.proofs.segments.read_functions_into.Goals as goal

pub returns : goal.returns
returns c =
    let f = c.args.reader.now.window.features in
    let s = state_of c.args.sections.now in
    after_joined (named_table f s) (λ _. kind_of_functions s) (both_of (plain {X = ℕ}) expr_of) kind_of_functions_of _ _ _ _ _ _ c.joined.ensures c.in_ok-first.ensures c.read_kind_of_functions-second.ensures

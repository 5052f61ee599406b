use Rattle.walrus_entry_readers.specs.walrus_known_sections.wasm_sections.Segments.{contents, named_memory}
use Rattle.wasm_reader.specs.Reading.{plain, seen_bytes}
use Rattle.walrus_entry_readers.specs.walrus_section_values.walrus_section_reader.Repeats.{unless_memory}
use Rattle.walrus_entry_readers.specs.walrus_section_values.Globals.{expr_of}
use Rattle.walrus_entry_readers.specs.walrus_known_sections.State.{state_of}
use Rattle.walrus_segment_readers.specs.Segments.{both_of, after_joined}
use Rattle.std.proofs.Common.{ℕ}
use Rattle.walrus_segment_readers.proofs.segments.read_data_into.Goals as goal

pub returns : goal.returns
returns c =
    let f = c.args.reader.now.window.features in
    let s = state_of c.args.sections.now in
    after_joined (named_memory f s) (λ _. contents) (both_of (plain {X = ℕ}) expr_of) seen_bytes _ _ _ _ _ _ c.joined.ensures c.in_ok-first.ensures (unless_memory (contents).parse seen_bytes _ _ _ c.read_contents-second.ensures)

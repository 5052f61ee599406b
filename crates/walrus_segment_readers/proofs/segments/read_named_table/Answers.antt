use Rattle.walrus_entry_readers.specs.walrus_known_sections.wasm_sections.Segments.{into_table}
use Rattle.wasm_reader.specs.Reading.{plain}
use Rattle.walrus_entry_readers.specs.walrus_known_sections.wasm_sections.wasm_grammar.Values.{index}
use Rattle.walrus_entry_readers.specs.walrus_section_values.walrus_section_reader.Repeats.{unless_memory}
use Rattle.walrus_entry_readers.specs.walrus_section_values.Globals.{expr_of}
use Rattle.walrus_entry_readers.specs.walrus_known_sections.Leads.{by_window}
use Rattle.walrus_entry_readers.specs.walrus_known_sections.State.{state_of}
use Rattle.walrus_segment_readers.specs.Segments.{after_joined}
use Rattle.std.proofs.Common.{ℕ, length}
use Rattle.walrus_entry_readers.specs.walrus_known_sections.wasm_sections.wasm_grammar.wasm_formats.declared.fault.Space.TheVariants as spaces
use Rattle.walrus_segment_readers.proofs.segments.read_named_table.Goals as goal

pub returns : goal.returns
returns c =
    let f = c.args.reader.now.window.features in
    let s = state_of c.args.sections.now in
    after_joined (index spaces.Table (length s.filled.tables)) (λ n. into_table f s n) (plain {X = ℕ}) expr_of _ _ _ _ _ _ c.joined.ensures (unless_memory (index spaces.Table (length s.filled.tables)).parse (plain {X = ℕ}) _ _ _ c.in_ok-first.ensures) (by_window (λ f. (into_table f s c.in_ok-first.first).parse) expr_of c.args.reader.now _ _ _ c.in_ok-first.ensures.moves c.read_into_table-second.ensures)

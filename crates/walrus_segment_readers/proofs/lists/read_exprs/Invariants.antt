use Rattle.walrus_entry_readers.specs.walrus_known_sections.wasm_sections.wasm_grammar.Exprs.{expr}
use Rattle.walrus_entry_readers.specs.walrus_known_sections.wasm_sections.wasm_grammar.States.{known}
use Rattle.walrus_entry_readers.specs.walrus_section_values.walrus_section_reader.Repeats.{Collects}
use Rattle.walrus_segment_readers.specs.Lists.{exprs_of}
use Rattle.walrus_entry_readers.specs.walrus_known_sections.State.{state_of}
use Rattle.walrus_segment_readers.proofs.lists.read_exprs.Given as goal

abbrev pub invariant-loop : goal.invariant-loop
invariant-loop l = Collects (expr l.fn.reader.window.features (known (state_of l.sections))) l.fn.reader l.reader l.count l.counter (exprs_of l.list)

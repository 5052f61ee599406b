use Rattle.walrus_entry_readers.specs.walrus_known_sections.wasm_sections.wasm_grammar.wasm_formats.declared.fault.Space.TheVariants as spaces
use Rattle.walrus_entry_readers.specs.walrus_known_sections.wasm_sections.wasm_grammar.Values.{index}
use Rattle.walrus_entry_readers.specs.walrus_section_values.walrus_section_reader.Repeats.{Collects}
use Rattle.walrus_segment_readers.proofs.lists.read_indices.Given as goal

abbrev pub invariant-loop : goal.invariant-loop
invariant-loop l = Collects (index spaces.Function l.functions) l.fn.reader l.reader l.count l.counter l.list.items

use Rattle.walrus_entry_readers.specs.walrus_known_sections.wasm_sections.wasm_grammar.wasm_formats.declared.fault.Space.TheVariants as spaces
use Rattle.walrus_entry_readers.specs.walrus_known_sections.wasm_sections.wasm_grammar.Values.{index}
use Rattle.walrus_segment_readers.specs.Lists.{numbers_of, many_parse}
use Rattle.walrus_segment_readers.proofs.lists.read_some_functions.Goals as goal

pub returns : goal.returns
returns c = many_parse (index spaces.Function c.args.functions) numbers_of _ _ _ _ _ c.in_ok-count.ensures c.read_indices.ensures

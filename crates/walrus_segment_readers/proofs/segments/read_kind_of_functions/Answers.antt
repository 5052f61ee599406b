use Rattle.std.proofs.Common.{refl}
use Rattle.wasm_reader.specs.declared.error.ErrorKind.TheVariants as kinds
use Rattle.wasm_reader.specs.Reading.{plain}
use Rattle.walrus_entry_readers.specs.walrus_known_sections.wasm_sections.wasm_grammar.wasm_formats.Stops.{Read}
use Rattle.walrus_entry_readers.specs.walrus_known_sections.wasm_sections.wasm_grammar.wasm_formats.Bytes.{literal}
use Rattle.walrus_entry_readers.specs.walrus_section_values.walrus_section_reader.Repeats.{unless_memory}
use Rattle.walrus_entry_readers.specs.walrus_known_sections.State.{state_of}
use Rattle.walrus_entry_readers.specs.walrus_known_sections.Leads.{after_last}
use Rattle.walrus_entry_readers.specs.walrus_known_sections.wasm_sections.Segments.{functions}
use Rattle.walrus_segment_readers.specs.Lists.{numbers_of}
use Rattle.walrus_segment_readers.specs.Segments.{kind_of_functions_of}
use Rattle.walrus_segment_readers.proofs.segments.read_kind_of_functions.Goals as goal

pub returns : goal.returns
returns c =
    let s = state_of c.args.sections.now in
    let zero = unless_memory (literal 0 (Read kinds.BadByte)).parse (plain {X = Unit {0}}) _ _ _ c.in_ok-read_zero.ensures in
    after_last (literal 0 (Read kinds.BadByte)) (λ _. functions s) (plain {X = Unit {0}}) numbers_of kind_of_functions_of _ _ _ _ _ (λ z. refl) zero c.read_functions.ensures

use Rattle.std.proofs.Common.{refl}
use Rattle.wasm_reader.specs.declared.error.ErrorKind.TheVariants as kinds
use Rattle.wasm_reader.specs.Reading.{plain}
use Rattle.walrus_known_sections.specs.wasm_sections.wasm_grammar.wasm_formats.Stops.{Read}
use Rattle.walrus_known_sections.specs.wasm_sections.wasm_grammar.wasm_formats.Bytes.{literal}
use Rattle.walrus_known_sections.specs.wasm_sections.wasm_grammar.wasm_formats.Joined.{after}
use Rattle.walrus_known_sections.specs.wasm_sections.wasm_grammar.Exprs.{expr}
use Rattle.walrus_known_sections.specs.wasm_sections.wasm_grammar.States.{known}
use Rattle.walrus_known_sections.specs.wasm_sections.Entities.{table_type}
use Rattle.walrus_section_reader.specs.Repeats.{unless_memory}
use Rattle.walrus_entry_readers.specs.Entries.{init_table_of, initialised_of}
use Rattle.walrus_known_sections.specs.State.{state_of}
use Rattle.walrus_known_sections.specs.Leads.{by_window, after_last}
use Rattle.walrus_entry_readers.proofs.entities.read_initialised.Goals as goal

pub returns : goal.returns
returns c =
    let f = c.args.reader.now.window.features in
    let s = state_of c.args.sections.now in
    let zero = unless_memory (literal 0 (Read kinds.BadByte)).parse (plain {X = Unit {0}}) _ _ _ c.in_ok-read_zero.ensures in
    after_last (literal 0 (Read kinds.BadByte)) (λ _. after (table_type f s) (λ _. expr f (known s))) (plain {X = Unit {0}}) init_table_of initialised_of _ _ _ _ _ (λ z. refl) zero
    (by_window (λ f. (after (table_type f s) (λ _. expr f (known s))).parse) _ _ _ _ _ zero.moves c.read_init_table.ensures)

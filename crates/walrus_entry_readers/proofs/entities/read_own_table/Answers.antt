use Rattle.std.proofs.Common.{refl}
use Rattle.std.proofs.lemmas.Result.{err_from_is_err_and}
use Rattle.walrus_known_sections.specs.wasm_sections.wasm_grammar.wasm_formats.Led.{led}
use Rattle.walrus_known_sections.specs.wasm_sections.Entities.{initialised, table_type, table_apart, table_some, table_wants}
use Rattle.walrus_section_reader.specs.Repeats.{unless_memory}
use Rattle.walrus_entry_readers.specs.Entries.{table_entry_of}
use Rattle.walrus_known_sections.specs.Items.{table_type_of}
use Rattle.walrus_known_sections.specs.State.{state_of}
use Rattle.walrus_known_sections.specs.Leads.{from_same, other_ok, other_err, handed_on}
use Rattle.walrus_entry_readers.proofs.entities.read_own_table.Goals as goal

pub returns-in_err-ty-2 : goal.returns-in_err-ty-2
returns-in_err-ty-2 c =
    let f = c.args.reader.now.window.features in
    let s = state_of c.args.sections.now in
    let p = err_from_is_err_and c.from_residual-in_err-ty-2.result c.from_residual-in_err-ty-2.ensures.1 in
    let stays = c.take_byte.ensures.stays c.if-take_byte.false in
    handed_on (led 0x40 (initialised f s) (table_type f s) (table_apart f s) (table_some f s) (table_wants f s)).parse table_entry_of _ _ _ _ _ p.1 p.2
    (other_err 0x40 (initialised f s) (table_type f s) (table_apart f s) (table_some f s) (table_wants f s) table_entry_of table_type_of _ _ _ stays.1
    (from_same (λ f. (table_type f s).parse) table_type_of _ _ _ _ stays.0 (unless_memory (table_type _ s).parse table_type_of _ _ _ c.in_err-ty-2.ensures)))

pub returns : goal.returns
returns c =
    let f = c.args.reader.now.window.features in
    let s = state_of c.args.sections.now in
    let stays = c.take_byte.ensures.stays c.if-take_byte.false in
    other_ok 0x40 (initialised f s) (table_type f s) (table_apart f s) (table_some f s) (table_wants f s) table_entry_of table_type_of _ _ _ c.in_ok-ty-2.ty stays.1 refl
    (from_same (λ f. (table_type f s).parse) table_type_of _ _ _ _ stays.0 (unless_memory (table_type _ s).parse table_type_of _ _ _ c.in_ok-ty-2.ensures))

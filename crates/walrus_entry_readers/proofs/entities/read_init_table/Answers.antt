use Rattle.std.proofs.Common.{refl}
use Rattle.std.proofs.lemmas.Result.{err_from_is_err_and}
use Rattle.walrus_known_sections.specs.wasm_sections.wasm_grammar.wasm_formats.Joined.{after}
use Rattle.walrus_known_sections.specs.wasm_sections.wasm_grammar.Exprs.{expr}
use Rattle.walrus_known_sections.specs.wasm_sections.wasm_grammar.States.{known}
use Rattle.walrus_known_sections.specs.wasm_sections.Entities.{table_type}
use Rattle.walrus_section_values.specs.Globals.{expr_of}
use Rattle.walrus_section_reader.specs.Repeats.{unless_memory}
use Rattle.walrus_entry_readers.specs.Entries.{init_table_of}
use Rattle.walrus_known_sections.specs.Items.{table_type_of}
use Rattle.walrus_known_sections.specs.State.{state_of}
use Rattle.walrus_known_sections.specs.Leads.{by_window, after_ok, after_err, handed_on}
use Rattle.walrus_entry_readers.proofs.entities.read_init_table.Goals as goal

pub returns-in_err-init : goal.returns-in_err-init
returns-in_err-init c =
    let f = c.args.reader.now.window.features in
    let s = state_of c.args.sections.now in
    let p = err_from_is_err_and c.from_residual-in_err-init.result c.from_residual-in_err-init.ensures.1 in
    let ty = unless_memory (table_type f s).parse table_type_of _ _ _ c.in_ok-ty.ensures in
    handed_on (after (table_type f s) (λ _. expr f (known s))).parse init_table_of _ _ _ _ _ p.1 p.2 (after_err (table_type f s) (λ _. expr f (known s)) table_type_of expr_of init_table_of _ _ _ _ _ ty (by_window (λ f. (expr f (known s)).parse) _ _ _ _ _ ty.moves c.in_err-init.ensures))

pub returns : goal.returns
returns c =
    let f = c.args.reader.now.window.features in
    let s = state_of c.args.sections.now in
    let ty = unless_memory (table_type f s).parse table_type_of _ _ _ c.in_ok-ty.ensures in
    after_ok (table_type f s) (λ _. expr f (known s)) table_type_of expr_of init_table_of _ _ _ _ c.in_ok-init.init _ refl ty (by_window (λ f. (expr f (known s)).parse) _ _ _ _ _ ty.moves c.in_ok-init.ensures)

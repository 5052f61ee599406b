use Rattle.std.proofs.Common.{refl}
use Rattle.std.proofs.lemmas.Result.{err_from_is_err_and}
use Rattle.wasm_formats.specs.Wholes.{sized, whole}
use Rattle.walrus_known_sections.specs.wasm_sections.Sections.{code}
use Rattle.walrus_section_reader.specs.Windows.{not_opened, not_parsed, parsed}
use Rattle.walrus_known_sections.specs.Leads.{handed_on}
use Rattle.walrus_known_sections.specs.State.{state_of}
use Rattle.walrus_code_reader.specs.Code.{code_entry_of}
use Rattle.walrus_code_reader.proofs.code.read_code_section.Goals as goal

pub returns-in_err-contents-clause-code : goal.returns-in_err-contents-clause-code
returns-in_err-contents-clause-code c =
    let p = err_from_is_err_and c.from_residual.result c.from_residual.ensures.1 in
    handed_on (sized (whole (code (state_of c.args.sections.now)))).parse code_entry_of _ _ _ _ _ p.1 p.2
    (not_opened (whole (code (state_of c.args.sections.now))).parse code_entry_of _ _ _ c.in_err-contents.ensures.contents)

pub returns-in_err-code-clause-code : goal.returns-in_err-code-clause-code
returns-in_err-code-clause-code c =
    let p = err_from_is_err_and c.from_residual-in_err-code.result c.from_residual-in_err-code.ensures.1 in
    handed_on (sized (whole (code (state_of c.args.sections.now)))).parse code_entry_of _ _ _ _ _ p.1 p.2
    (not_parsed (whole (code (state_of c.args.sections.now))).parse code_entry_of code_entry_of _ _ _ _ c.in_ok-contents.ensures.contents c.in_ok-contents.ensures.place c.in_err-code.ensures.code)

pub returns-clause-code : goal.returns-clause-code
returns-clause-code c = parsed (whole (code (state_of c.args.sections.now))).parse code_entry_of code_entry_of _ _ _ _ _ refl c.in_ok-contents.ensures.contents c.in_ok-contents.ensures.place c.in_ok-code.ensures.code

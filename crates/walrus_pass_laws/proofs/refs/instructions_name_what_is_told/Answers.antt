use Rattle.walrus_pass_laws.proofs.Instrs.{instrs_told}
use Rattle.walrus_pass_laws.proofs.refs.instructions_name_what_is_told.Goals as goal

pub returns : goal.returns
returns c = instrs_told c.plain_instructions_name_what_is_told.ensures

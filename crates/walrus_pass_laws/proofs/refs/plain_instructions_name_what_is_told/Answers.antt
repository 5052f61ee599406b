use Rattle.walrus_pass_laws.proofs.PlainLemmas.{plain_told}
use Rattle.walrus_pass_laws.proofs.refs.plain_instructions_name_what_is_told.Goals as goal

pub returns : goal.returns
returns c = plain_told c.names_are_told.ensures

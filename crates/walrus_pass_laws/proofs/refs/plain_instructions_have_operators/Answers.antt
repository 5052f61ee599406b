use Rattle.walrus_pass_laws.proofs.PlainLemmas.{plain_have}
use Rattle.walrus_pass_laws.proofs.refs.plain_instructions_have_operators.Goals as goal

pub returns : goal.returns
returns c = plain_have

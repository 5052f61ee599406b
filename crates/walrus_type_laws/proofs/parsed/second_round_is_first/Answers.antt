use Rattle.walrus_type_laws.proofs.AgainLemmas.{again-law}
use Rattle.walrus_type_laws.proofs.parsed.second_round_is_first.Goals as goal

pub returns : goal.returns
returns c = again-law

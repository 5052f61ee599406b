use Rattle.walrus_code_laws.proofs.Parts.{apart}
use Rattle.walrus_code_laws.proofs.laws.code_is_apart.Goals as goal

pub returns : goal.returns
returns c = apart

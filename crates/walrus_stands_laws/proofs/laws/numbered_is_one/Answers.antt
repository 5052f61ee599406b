use Rattle.walrus_stands_laws.proofs.Stands.{numbered_is_one}
use Rattle.walrus_stands_laws.proofs.laws.numbered_is_one.Goals as goal

pub returns : goal.returns
returns c = numbered_is_one

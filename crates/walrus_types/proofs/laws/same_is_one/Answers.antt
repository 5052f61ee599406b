use Rattle.walrus_types.proofs.SameOnce.{once-law}
use Rattle.walrus_types.proofs.laws.same_is_one.Goals as goal

pub returns : goal.returns
returns c = once-law

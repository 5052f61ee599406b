use Rattle.walrus_walks.proofs.Plain.{body_walk_is_walk}
use Rattle.walrus_walks.proofs.laws.body_walk_is_walk.Goals as goal

pub returns : goal.returns
returns c = body_walk_is_walk

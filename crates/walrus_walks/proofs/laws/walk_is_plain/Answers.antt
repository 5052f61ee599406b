use Rattle.walrus_walks.proofs.Plain.{walk_is_plain, plain_walk_is_one}
use Rattle.walrus_walks.proofs.laws.walk_is_plain.Goals as goal

pub returns-clause-plain : goal.returns-clause-plain
returns-clause-plain c = walk_is_plain

pub returns-clause-one : goal.returns-clause-one
returns-clause-one c = plain_walk_is_one

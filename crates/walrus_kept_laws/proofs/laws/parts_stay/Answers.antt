use Rattle.walrus_kept_laws.proofs.Stay.{numbered_left, parts_stay}
use Rattle.walrus_kept_laws.proofs.laws.parts_stay.Goals as goal

pub returns-clause-left : goal.returns-clause-left
returns-clause-left c = numbered_left

pub returns-clause-parts : goal.returns-clause-parts
returns-clause-parts c = parts_stay c.parts_agree.ensures

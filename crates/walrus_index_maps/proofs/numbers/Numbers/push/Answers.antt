use Rattle.std.proofs.Common.{◌+◌, refl, ap}
use Rattle.walrus_index_maps.specs.Maps.{Numbering}
use Rattle.walrus_index_maps.proofs.numbers.Numbers.push.Goals as goal

pub returns-clause-given : goal.returns-clause-given
returns-clause-given g c = (refl, ap (λ (m : Numbering). record m { given = m.given + 1 }) c.in_ok-set.ensures.set)

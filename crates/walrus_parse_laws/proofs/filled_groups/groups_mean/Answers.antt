use Rattle.walrus_parse_laws.proofs.FilledGroupLemmas.{groups_mean}
use Rattle.walrus_parse_laws.proofs.filled_groups.groups_mean.Goals as goal

pub returns : goal.returns
returns c = groups_mean c.new_types_stand.ensures

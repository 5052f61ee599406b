use Rattle.walrus_parse_laws.proofs.ModuleLemmas.{module_means}
use Rattle.walrus_parse_laws.proofs.filled.module_means.Goals as goal

pub returns : goal.returns
returns c = module_means c.read_sections_are_spelled.ensures c.types_name_below.ensures c.read_types_are_declared.ensures c.groups_mean.ensures

use Rattle.walrus_kept_laws.proofs.Planned.{plans_have}
use Rattle.walrus_kept_laws.proofs.laws.plans_have_kept.Goals as goal

pub returns : goal.returns
returns g c = plans_have c.passes_keep_what_is_meant.ensures c.meanings_of_read_modules_are_merged.ensures c.handlers_are_lacking.ensures

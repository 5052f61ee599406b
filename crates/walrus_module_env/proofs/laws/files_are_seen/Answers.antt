use Rattle.walrus_module_env.proofs.AroundLemmas.{is_around}
use Rattle.walrus_module_env.proofs.laws.files_are_seen.Goals as goal

pub returns : goal.returns
returns c = is_around

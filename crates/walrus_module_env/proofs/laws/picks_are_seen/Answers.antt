use Rattle.walrus_module_env.proofs.AroundLemmas.{picks_are}
use Rattle.walrus_module_env.proofs.laws.picks_are_seen.Goals as goal

pub returns : goal.returns
returns c = λ e i function locals features a h. picks_are e function i a h.same_is h.types_are

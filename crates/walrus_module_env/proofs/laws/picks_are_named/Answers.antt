use Rattle.walrus_module_env.proofs.AroundLemmas.{finds}
use Rattle.walrus_module_env.proofs.laws.picks_are_named.Goals as goal

pub returns : goal.returns
returns c = λ e i function locals features a h. finds e function i a h.same_is h.types_are

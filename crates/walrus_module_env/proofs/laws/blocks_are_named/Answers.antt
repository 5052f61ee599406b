use Rattle.walrus_module_env.proofs.AroundLemmas.{blocks_are_named}
use Rattle.walrus_module_env.proofs.laws.blocks_are_named.Goals as goal

pub returns : goal.returns
returns c = λ e i function locals features a h. blocks_are_named e function i a h.same_is h.types_are

use Rattle.walrus_type_laws.proofs.SwapLemmas.{swap-law}
use Rattle.walrus_type_laws.proofs.swapped.swap_changes_nothing.Goals as goal

pub returns : goal.returns
returns c = swap-law

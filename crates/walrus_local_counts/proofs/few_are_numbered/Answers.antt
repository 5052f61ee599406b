use Rattle.walrus_local_counts.proofs.LocalLemmas.{few_are_numbered}
use Rattle.walrus_local_counts.proofs.few_are_numbered.Goals as goal

pub returns : goal.returns
returns c = few_are_numbered

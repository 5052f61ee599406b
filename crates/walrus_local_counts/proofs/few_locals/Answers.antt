use Rattle.walrus_local_counts.proofs.LocalLemmas.{few_locals}
use Rattle.walrus_local_counts.proofs.few_locals.Goals as goal

pub returns : goal.returns
returns c = few_locals

use Rattle.walrus_meaning.proofs.MeaningLemmas.{empty_means}
use Rattle.walrus_meaning.proofs.empty_means_empty.Goals as goal

pub returns : goal.returns
returns c = empty_means

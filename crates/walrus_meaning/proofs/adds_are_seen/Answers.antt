use Rattle.walrus_meaning.proofs.MeaningLemmas.{adds_seen}
use Rattle.walrus_meaning.proofs.adds_are_seen.Goals as goal

pub returns : goal.returns
returns c = adds_seen

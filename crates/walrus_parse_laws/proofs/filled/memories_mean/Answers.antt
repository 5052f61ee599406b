use Rattle.walrus_parse_laws.proofs.FilledItemLemmas.{memories_mean}
use Rattle.walrus_parse_laws.proofs.filled.memories_mean.Goals as goal

pub returns : goal.returns
returns c = memories_mean

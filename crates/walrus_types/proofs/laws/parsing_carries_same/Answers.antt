use Rattle.walrus_types.proofs.MergerLemmas.{parsing-law}
use Rattle.walrus_types.proofs.laws.parsing_carries_same.Goals as goal

pub returns : goal.returns
returns c = parsing-law

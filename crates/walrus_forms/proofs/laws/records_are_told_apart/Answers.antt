use Rattle.walrus_forms.proofs.ConversionLemmas.{records_are_told}
use Rattle.walrus_forms.proofs.laws.records_are_told_apart.Goals as goal

pub returns : goal.returns
returns c = records_are_told

use Rattle.walrus_forms.proofs.ConversionLemmas.{names_are_renamed}
use Rattle.walrus_forms.proofs.laws.names_are_renamed.Goals as goal

pub returns : goal.returns
returns c = names_are_renamed

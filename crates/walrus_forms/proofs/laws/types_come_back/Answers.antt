use Rattle.walrus_forms.proofs.ConversionLemmas.{types_come_back}
use Rattle.walrus_forms.proofs.laws.types_come_back.Goals as goal

pub returns : goal.returns
returns c = types_come_back

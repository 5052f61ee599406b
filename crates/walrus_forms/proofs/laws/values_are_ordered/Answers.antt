use Rattle.walrus_forms.proofs.PlaceLemmas.{value-places}
use Rattle.walrus_forms.proofs.laws.values_are_ordered.Goals as goal

pub returns : goal.returns
returns c = value-places c.args.a c.args.b

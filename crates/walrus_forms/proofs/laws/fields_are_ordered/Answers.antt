use Rattle.walrus_forms.proofs.PlaceLemmas.{field-places}
use Rattle.walrus_forms.proofs.laws.fields_are_ordered.Goals as goal

pub returns : goal.returns
returns c = field-places c.args.a c.args.b

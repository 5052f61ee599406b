use Rattle.walrus_customs_laws.proofs.Items.{item_names_listed}
use Rattle.walrus_customs_laws.proofs.laws.item_names_are_listed.Goals as goal

pub returns : goal.returns
returns c = item_names_listed

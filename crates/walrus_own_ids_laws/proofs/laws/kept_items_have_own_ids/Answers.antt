use Rattle.walrus_own_ids_laws.proofs.OwnIds.{kept_items_have_own_ids}
use Rattle.walrus_own_ids_laws.proofs.laws.kept_items_have_own_ids.Goals as goal

pub returns : goal.returns
returns c = kept_items_have_own_ids

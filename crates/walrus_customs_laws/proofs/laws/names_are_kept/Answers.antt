use Rattle.walrus_customs_laws.proofs.Kept.{names_are_kept}
use Rattle.walrus_customs_laws.proofs.laws.names_are_kept.Goals as goal

pub returns : goal.returns
returns g c = names_are_kept _ c.item_names_are_listed.ensures c.used_names_are_listed.ensures c.local_names_are_listed.ensures c.read_names_are_last.ensures c.read_local_names_are_last.ensures

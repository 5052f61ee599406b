use Rattle.walrus_linked.specs.OwnIds.Edit.{Deletes}
use Rattle.walrus_module_laws.proofs.own_ids.delete.Goals as goal

pub returns : goal.returns
returns g c = λ id_of. Deletes c.args.id c.delete.ensures.deleted

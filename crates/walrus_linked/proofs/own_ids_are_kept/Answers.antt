use Rattle.walrus_linked.proofs.OwnIdLemmas.{own_ids}
use Rattle.walrus_linked.proofs.own_ids_are_kept.Goals as goal

pub returns : goal.returns
returns g c = λ id_of. own_ids id_of

use Rattle.walrus_rewritten_laws.proofs.Planned.{kept_planned}
use Rattle.walrus_rewritten_laws.proofs.laws.kept_modules_are_planned.Goals as goal

pub returns : goal.returns
returns g c =
    kept_planned c.written_modules_are_planned.ensures c.modules_that_are_read_are_linked.ensures c.gc_keeps_linked.ensures c.read_items_have_own_ids.ensures c.kept_items_have_own_ids.ensures

use Rattle.walrus_index_maps.specs.Views.{indices}
use Rattle.walrus_emit_customs.specs.Names.{local_entry}
use Rattle.walrus_emit_customs.proofs.NameLemmas.{next_made}
use Rattle.walrus_emit_customs.proofs.names.locals_of.Goals as goal

pub loop-id-preserved : goal.loop-id-preserved
loop-id-preserved c =
    next_made (local_entry c.args.locals.now (indices c.args.maps.now) c.args.body.now.function) c.deref-id-items.result.now c.loop-id.id-index _ c.id-item.result _ _
    c.loop-id-test.true c.id-item.is c.loop-id.invariant c.in_ok-add_local.ensures

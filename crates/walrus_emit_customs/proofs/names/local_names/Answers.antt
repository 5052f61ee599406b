use Rattle.std.proofs.Common.{refl, ◌+◌, drop, slice_get, slice_index_or}
use Rattle.std.specs.List.{filter_map}
use Rattle.walrus_index_maps.specs.Views.{indices}
use Rattle.walrus_emit_customs.specs.Names.{body_names}
use Rattle.walrus_emit_customs.proofs.NameLemmas.{next_body, one_made}
use Rattle.walrus_emit_customs.proofs.names.local_names.Goals as goal

pub loop-at-preserved : goal.loop-at-preserved
loop-at-preserved c =
    let facts = c.args.facts.now in
    let order = c.args.order.now in
    one_made (body_names c.args.locals.now (indices c.args.maps.now)) (filter_map (slice_get facts) order) (filter_map (slice_get facts) (drop c.loop-at.at-index order))
    (filter_map (slice_get facts) (drop (c.loop-at.at-index + 1) order)) c.index-facts-at.result _ _
    (next_body facts order c.loop-at.at-index 0 (slice_index_or order c.loop-at.at-index 0) _ c.index-facts-at.result c.loop-at-test.true refl
    (c.requires c.loop-at.at-index 0 c.loop-at-test.true) c.index-facts-at.is)
    c.loop-at.invariant c.in_ok-add_function.ensures

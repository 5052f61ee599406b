use Rattle.walrus_index_maps.specs.Views.{indices}
use Rattle.walrus_local_numbers.proofs.Numbering.{number_step, others_step}
use Rattle.walrus_local_numbers.proofs.numbers.number.Goals as goal

pub loop-id-preserved : goal.loop-id-preserved
loop-id-preserved c =
    let old = indices c.args.maps.now in
    let mid = indices c.loop-id.maps in
    let new = indices c.set_local_index.new.self in
    record {
      goes = number_step c.args.function c.args.first c.loop-id.next c.in-Ok.index c.in-Some.behind c.args.ids.now c.loop-id.id-index c.id-item.result old mid new c.loop-id-test.true c.id-item.is c.in-Ok.ensures.1 c.in-Some.ensures.1 c.in_ok-set_local_index.ensures.set c.loop-id.invariant.goes;
      others = others_step c.args.function c.id-item.result c.in-Ok.index old mid new c.loop-id.invariant.others c.in_ok-set_local_index.ensures.set;
    }

use Rattle.std.proofs.Common.{subst, sym, List}
use Rattle.walrus_index_maps.specs.Views.{indices}
use Rattle.std.proofs.Common.{drop, ◌+◌}
use Rattle.walrus_local_numbers.specs.Written.{WrittenRun}
use Rattle.walrus_local_numbers.proofs.Counting.{GoesOn, goes_on}
use Rattle.walrus_local_numbers.proofs.runs.written.Goals as goal

pub loop-run-preserved : goal.loop-run-preserved
loop-run-preserved c =
    let types = (indices c.args.maps.now).types.number in
    let all = c.args.runs.now in
    let F : List WrittenRun → Type 0 = λ z. GoesOn types all z (drop (c.loop-run.run-index + 1) all) in
    subst F (sym c.in_ok-extend_from_slice.ensures.items)
    (goes_on types all c.loop-run.run-index c.run-item.result c.in_ok-ty.ty c.loop-run.written.items c.loop-run-test.true c.run-item.is c.in_ok-ty.ensures c.loop-run.invariant)

use Rattle.std.proofs.lemmas.Result.{err_from_is_err_and}
use Rattle.walrus_sections_into.specs.walrus_index_maps.Views.{ids}
use Rattle.walrus_sections_into.specs.Becomes.{look_of}
use Rattle.walrus_sections_into.specs.Slots.{filled_on, filled_so_far}
use Rattle.walrus_tables_into.specs.Globals.{IsGlobalOf, GlobalLacks}
use Rattle.walrus_sections_into.specs.Loops.{one_lacks}
use Rattle.walrus_tables_into.proofs.globals.add_globals.Goals as goal

pub loop-global-preserved : goal.loop-global-preserved
loop-global-preserved c =
    let it = c.in_ok-add_global.ensures.added in
    filled_on (IsGlobalOf (look_of (ids c.args.maps.now))) c.args.globals.now c.loop-global.global-index _ c.global-item.result c.args.into.now.slots c.loop-global.into.slots c.add_global.new.into.slots it.0
    c.global-item.is c.loop-global-test.true c.loop-global.invariant it.1 it.2

pub returns-in_err-add_global-clause-unknown : goal.returns-in_err-add_global-clause-unknown
returns-in_err-add_global-clause-unknown c =
    let p = err_from_is_err_and c.from_residual.result c.from_residual.ensures.1 in
    one_lacks (GlobalLacks (look_of (ids c.args.maps.now))) c.args.globals.now c.loop-global.global-index _ c.global-item.result c.from_residual.result _ _ c.global-item.is c.loop-global-test.true p.1 p.2 c.in_err-add_global.ensures.unknown

pub returns-in_err-add_global-clause-in_part : goal.returns-in_err-add_global-clause-in_part
returns-in_err-add_global-clause-in_part c =
    let p = err_from_is_err_and c.from_residual.result c.from_residual.ensures.1 in
    filled_so_far (IsGlobalOf (look_of (ids c.args.maps.now))) c.args.globals.now c.loop-global.global-index c.args.into.now c.loop-global.into c.add_global.new.into c.from_residual.result p.0 p.1 c.in_err-add_global.ensures.refused c.loop-global.invariant

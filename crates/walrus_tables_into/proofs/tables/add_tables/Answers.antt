use Rattle.std.proofs.lemmas.Result.{err_from_is_err_and}
use Rattle.walrus_sections_into.specs.walrus_index_maps.Views.{ids}
use Rattle.walrus_sections_into.specs.Becomes.{look_of}
use Rattle.walrus_sections_into.specs.Slots.{filled_on, filled_so_far}
use Rattle.walrus_tables_into.specs.Tables.{IsTableOf, TableLacks}
use Rattle.walrus_sections_into.specs.Loops.{one_lacks}
use Rattle.walrus_tables_into.proofs.tables.add_tables.Goals as goal

pub loop-table-preserved : goal.loop-table-preserved
loop-table-preserved c =
    let it = c.in_ok-add_table.ensures.added in
    filled_on (IsTableOf (look_of (ids c.args.maps.now))) c.args.tables.now c.loop-table.table-index _ c.table-item.result c.args.into.now.slots c.loop-table.into.slots c.add_table.new.into.slots it.0
    c.table-item.is c.loop-table-test.true c.loop-table.invariant it.1 it.2

pub returns-in_err-add_table-clause-unknown : goal.returns-in_err-add_table-clause-unknown
returns-in_err-add_table-clause-unknown c =
    let p = err_from_is_err_and c.from_residual.result c.from_residual.ensures.1 in
    one_lacks (TableLacks (look_of (ids c.args.maps.now))) c.args.tables.now c.loop-table.table-index _ c.table-item.result c.from_residual.result _ _ c.table-item.is c.loop-table-test.true p.1 p.2 c.in_err-add_table.ensures.unknown

pub returns-in_err-add_table-clause-in_part : goal.returns-in_err-add_table-clause-in_part
returns-in_err-add_table-clause-in_part c =
    let p = err_from_is_err_and c.from_residual.result c.from_residual.ensures.1 in
    filled_so_far (IsTableOf (look_of (ids c.args.maps.now))) c.args.tables.now c.loop-table.table-index c.args.into.now c.loop-table.into c.add_table.new.into c.from_residual.result p.0 p.1 c.in_err-add_table.ensures.refused c.loop-table.invariant

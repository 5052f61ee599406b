use Rattle.std.proofs.Common.{refl}
use Rattle.std.proofs.lemmas.Result.{err_from_is_err_and}
use Rattle.walrus_index_maps.specs.Views.{ids}
use Rattle.walrus_sections_into.specs.Becomes.{look_of}
use Rattle.walrus_sections_into.specs.Lacks.{ExportLacks}
use Rattle.walrus_sections_into.specs.Loops.{one_lacks}
use Rattle.walrus_sections_into.specs.Slots.{filled_on, filled_so_far}
use Rattle.walrus_sections_into.specs.Exports.{IsExportOf}
use Rattle.walrus_sections_into.proofs.exports.add_exports.Goals as goal

pub loop-export-preserved : goal.loop-export-preserved
loop-export-preserved c =
    let it = c.in_ok-add_export.ensures.added in
    filled_on (IsExportOf (look_of (ids c.args.maps.now))) c.args.exports.now c.loop-export.export-index _ _ c.args.into.now.slots c.loop-export.into.slots c.add_export.new.into.slots it.0
    refl c.loop-export-test.true c.loop-export.invariant it.1 it.2

pub returns-in_err-add_export-clause-in_part : goal.returns-in_err-add_export-clause-in_part
returns-in_err-add_export-clause-in_part c =
    let p = err_from_is_err_and c.from_residual.result c.from_residual.ensures.1 in
    filled_so_far (IsExportOf (look_of (ids c.args.maps.now))) c.args.exports.now c.loop-export.export-index c.args.into.now c.loop-export.into c.add_export.new.into c.from_residual.result p.0 p.1 c.in_err-add_export.ensures.refused c.loop-export.invariant

pub returns-in_err-add_export-clause-unknown : goal.returns-in_err-add_export-clause-unknown
returns-in_err-add_export-clause-unknown c =
    let p = err_from_is_err_and c.from_residual.result c.from_residual.ensures.1 in
    one_lacks (ExportLacks (look_of (ids c.args.maps.now))) c.args.exports.now c.loop-export.export-index _ _ c.from_residual.result _ _ refl c.loop-export-test.true p.1 p.2 c.in_err-add_export.ensures.unknown

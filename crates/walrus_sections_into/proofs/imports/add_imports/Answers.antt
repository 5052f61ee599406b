use Rattle.std.proofs.Common.{refl}
use Rattle.std.proofs.lemmas.Result.{err_from_is_err_and}
use Rattle.walrus_index_maps.specs.Views.{ids}
use Rattle.walrus_sections_into.specs.Becomes.{look_of}
use Rattle.walrus_sections_into.specs.Lacks.{ImportLacks}
use Rattle.walrus_sections_into.specs.Loops.{one_lacks}
use Rattle.walrus_sections_into.specs.Slots.{filled_on, filled_so_far}
use Rattle.walrus_sections_into.specs.Imports.{IsImportOf}
use Rattle.walrus_sections_into.proofs.imports.add_imports.Goals as goal

pub loop-import-preserved : goal.loop-import-preserved
loop-import-preserved c =
    let it = c.in_ok-add_import.ensures.added in
    filled_on (IsImportOf (look_of (ids c.args.maps.now))) c.args.imports.now c.loop-import.import-index _ _ c.args.into.now.slots c.loop-import.into.slots c.add_import.new.into.slots it.0
    refl c.loop-import-test.true c.loop-import.invariant it.1 it.2

pub returns-in_err-add_import-clause-in_part : goal.returns-in_err-add_import-clause-in_part
returns-in_err-add_import-clause-in_part c =
    let p = err_from_is_err_and c.from_residual.result c.from_residual.ensures.1 in
    filled_so_far (IsImportOf (look_of (ids c.args.maps.now))) c.args.imports.now c.loop-import.import-index c.args.into.now c.loop-import.into c.add_import.new.into c.from_residual.result p.0 p.1 c.in_err-add_import.ensures.refused c.loop-import.invariant

pub returns-in_err-add_import-clause-unknown : goal.returns-in_err-add_import-clause-unknown
returns-in_err-add_import-clause-unknown c =
    let p = err_from_is_err_and c.from_residual.result c.from_residual.ensures.1 in
    one_lacks (ImportLacks (look_of (ids c.args.maps.now))) c.args.imports.now c.loop-import.import-index _ _ c.from_residual.result _ _ refl c.loop-import-test.true p.1 p.2 c.in_err-add_import.ensures.unknown

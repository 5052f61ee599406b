use Rattle.std.proofs.lemmas.Result.{err_from_is_err_and}
use Rattle.walrus_sections_into.specs.walrus_index_maps.Views.{ids}
use Rattle.walrus_sections_into.specs.Becomes.{look_of}
use Rattle.walrus_sections_into.specs.Slots.{filled_on, filled_so_far}
use Rattle.walrus_tables_into.specs.Elements.{IsElementOf, ElementLacks}
use Rattle.walrus_sections_into.specs.Loops.{one_lacks}
use Rattle.walrus_tables_into.proofs.elements.add_elements.Goals as goal

pub loop-element-preserved : goal.loop-element-preserved
loop-element-preserved c =
    let it = c.in_ok-add_element.ensures.added in
    filled_on (IsElementOf (look_of (ids c.args.maps.now))) c.args.elements.now c.loop-element.element-index _ c.element-item.result c.args.into.now.slots c.loop-element.into.slots c.add_element.new.into.slots it.0
    c.element-item.is c.loop-element-test.true c.loop-element.invariant it.1 it.2

pub returns-in_err-add_element-clause-unknown : goal.returns-in_err-add_element-clause-unknown
returns-in_err-add_element-clause-unknown c =
    let p = err_from_is_err_and c.from_residual.result c.from_residual.ensures.1 in
    one_lacks (ElementLacks (look_of (ids c.args.maps.now))) c.args.elements.now c.loop-element.element-index _ c.element-item.result c.from_residual.result _ _ c.element-item.is c.loop-element-test.true p.1 p.2 c.in_err-add_element.ensures.unknown

pub returns-in_err-add_element-clause-in_part : goal.returns-in_err-add_element-clause-in_part
returns-in_err-add_element-clause-in_part c =
    let p = err_from_is_err_and c.from_residual.result c.from_residual.ensures.1 in
    filled_so_far (IsElementOf (look_of (ids c.args.maps.now))) c.args.elements.now c.loop-element.element-index c.args.into.now c.loop-element.into c.add_element.new.into c.from_residual.result p.0 p.1 c.in_err-add_element.ensures.refused c.loop-element.invariant

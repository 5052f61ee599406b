use Rattle.std.proofs.Common.{refl}
use Rattle.std.proofs.lemmas.Result.{err_from_is_err_and}
use Rattle.walrus_index_maps.specs.Views.{ids}
use Rattle.walrus_sections_into.specs.Becomes.{look_of}
use Rattle.walrus_sections_into.specs.Lacks.{TagLacks}
use Rattle.walrus_sections_into.specs.Loops.{one_lacks}
use Rattle.walrus_sections_into.specs.Slots.{filled_on, filled_so_far}
use Rattle.walrus_sections_into.specs.Tags.{IsTagOf}
use Rattle.walrus_sections_into.proofs.tags.add_tags.Goals as goal

pub loop-tag-preserved : goal.loop-tag-preserved
loop-tag-preserved c =
    let it = c.in_ok-add_tag.ensures.added in
    filled_on (IsTagOf (look_of (ids c.args.maps.now))) c.args.tags.now c.loop-tag.tag-index _ _ c.args.into.now.slots c.loop-tag.into.slots c.add_tag.new.into.slots it.0
    refl c.loop-tag-test.true c.loop-tag.invariant it.1 it.2

pub returns-in_err-add_tag-clause-in_part : goal.returns-in_err-add_tag-clause-in_part
returns-in_err-add_tag-clause-in_part c =
    let p = err_from_is_err_and c.from_residual.result c.from_residual.ensures.1 in
    filled_so_far (IsTagOf (look_of (ids c.args.maps.now))) c.args.tags.now c.loop-tag.tag-index c.args.into.now c.loop-tag.into c.add_tag.new.into c.from_residual.result p.0 p.1 c.in_err-add_tag.ensures.refused c.loop-tag.invariant

pub returns-in_err-add_tag-clause-unknown : goal.returns-in_err-add_tag-clause-unknown
returns-in_err-add_tag-clause-unknown c =
    let p = err_from_is_err_and c.from_residual.result c.from_residual.ensures.1 in
    one_lacks (TagLacks (look_of (ids c.args.maps.now))) c.args.tags.now c.loop-tag.tag-index _ _ c.from_residual.result _ _ refl c.loop-tag-test.true p.1 p.2 c.in_err-add_tag.ensures.unknown

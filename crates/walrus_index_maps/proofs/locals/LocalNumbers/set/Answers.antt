use Rattle.std.proofs.Common.{◌∙◌, refl, ap}
use Rattle.std.specs.BTreeMap.{get}
use Rattle.walrus_index_maps.specs.Maps.{with_local}
use Rattle.walrus_index_maps.specs.Views.{key_cmp}
use Rattle.walrus_index_maps.proofs.LocalLemmas.{said_written}
use Rattle.walrus_index_maps.proofs.locals.LocalNumbers.set.Goals as goal

pub returns-clause-set : goal.returns-clause-set
returns-clause-set c =
    let kept = c.keep.new.self in
    said_written kept.last.items c.number-at.result c.number-function.result c.args.number (get key_cmp kept.earlier) (rw c.in_ok-keep.ensures.last c.in_ok-reach.ensures.place) c.in_ok-keep.ensures.kept
    ∙ ap (with_local c.number-function.result c.number-at.result c.args.number) (c.in_ok-keep.ensures.same ∙ c.in_ok-reach.ensures.same)
    ∙ rw (c.number-function.ensures, c.number-at.ensures) refl

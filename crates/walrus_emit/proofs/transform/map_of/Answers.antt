use Rattle.std.proofs.Common.{rules, ◌≤◌, length}
use Rattle.walrus_emit.proofs.Lasts.{are_places, none_left}
use Rattle.walrus_emit.proofs.transform.map_of.Goals as goal

pub returns : goal.returns
returns c =
    let past : length c.in_ok-pairs.pairs.items ≤ c.loop-at.at = search rules in
    are_places c.args.locations.now c.in_ok-pairs.pairs.items c.args.start c.in_ok-pairs.ensures.same c.loop-at.map.items c.in_ok-pairs.ensures.sorted
    (none_left c.in_ok-pairs.pairs.items c.loop-at.at c.args.start c.loop-at.map.items past c.loop-at.invariant)

use Rattle.std.proofs.Common.{rules, arith, ap, ◌≡◌, [], length}
use Rattle.walrus_collections.specs.LookUps.{items}
use Rattle.walrus_emit_sections.proofs.OwnLemmas.{one_counted}
use Rattle.walrus_emit_sections.proofs.own.live_count.Goals as goal

pub loop-preserved : goal.loop-preserved
loop-preserved g c = record {
  can = search rules;
  ends = search rules;
  left = one_counted (items c.args.all.now) c.loop.iterator' c.next.new.self _ c.loop.count _ c.in-Some.ensures.steps c.loop.invariant.left (search rules);
}

pub returns : goal.returns
returns g c =
    let none : c.loop.iterator' ≡ [] = search rules in
    let size : length c.loop.iterator' ≡ 0 = ap length none in
    omega (arith, size, c.loop.invariant.left)

use Rattle.std.proofs.Common.{rules, ◌≡◌, []}
use Rattle.walrus_arena.specs.Arena.{ids}
use Rattle.walrus_emit_customs.proofs.CustomLemmas.{all_left, none_left, one_refused, one_written}
use Rattle.walrus_emit_customs.proofs.customs.write_sections.Goals as goal

pub loop-id-init : goal.loop-id-init
loop-id-init g c = record {
  can = search rules;
  ends = search rules;
  wrote = all_left _ (ids c.args.sections.now) c.into_iter-id-iterator.result c.args.out.now.items (search rules);
}

pub loop-id-preserved : goal.loop-id-preserved
loop-id-preserved g c = record {
  can = search rules;
  ends = search rules;
  wrote = one_written _ (ids c.args.sections.now) c.loop-id.id-iterator c.next.new.self _ _ _ _ c.in-Some.ensures.steps c.loop-id.invariant.wrote c.in-Ok.ensures;
}

pub returns-in-Err : goal.returns-in-Err
returns-in-Err g c = one_refused _ (ids c.args.sections.now) c.loop-id.id-iterator c.next.new.self _ _ _ _ _ c.in-Some.ensures.steps c.loop-id.invariant.wrote c.in-Err.ensures

pub returns : goal.returns
returns g c =
    let none : c.loop-id.id-iterator ≡ [] = search rules in
    none_left _ (ids c.args.sections.now) c.loop-id.id-iterator c.args.out.now.items _ none c.loop-id.invariant.wrote

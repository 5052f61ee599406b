use Rattle.std.proofs.Common.{rules, ◌≡◌, []}
use Rattle.walrus_arena.specs.Arena.{entries}
use Rattle.walrus_module.specs.walrus_collections.LookUps.{local_entries}
use Rattle.walrus_emit_numbers.proofs.Zips.{all_known, none_known, one_known}
use Rattle.walrus_emit_numbers.proofs.facts.facts_of.Goals as goal

pub loop-function-init : goal.loop-function-init
loop-function-init c = record {
  can = search rules;
  ends = search rules;
  known = none_known (local_entries (entries c.args.functions.now)) c.into_iter-function-iterator.result c.new-facts.result.items (search rules) c.new-facts.ensures.items;
}

pub loop-function-preserved : goal.loop-function-preserved
loop-function-preserved c = record {
  can = search rules;
  ends = search rules;
  known = one_known (local_entries (entries c.args.functions.now)) c.loop-function.function-iterator c.next.new.self (c.in-Some.function, c.in-Some.local.now) c.in_ok-known.known
      c.loop-function.facts.items c.push.new.self.items c.in-Some.ensures.steps c.in_ok-known.ensures.facts c.in_ok-push.ensures.items c.loop-function.invariant.known;
}

pub returns-clause-facts : goal.returns-clause-facts
returns-clause-facts c =
    let none : c.loop-function.function-iterator ≡ [] = search rules in
    all_known (local_entries (entries c.args.functions.now)) c.loop-function.function-iterator c.loop-function.facts.items none c.loop-function.invariant.known

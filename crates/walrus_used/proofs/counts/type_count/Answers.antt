use Rattle.std.proofs.Common.{◌+◌, ◌∙◌, ap}
use Rattle.walrus_used.proofs.CountLemmas.{past_highest, past_none}
use Rattle.walrus_used.proofs.counts.type_count.Goals as goal

pub returns-in-Some-clause-count : goal.returns-in-Some-clause-count
returns-in-Some-clause-count c = ap (λ n. n + 1) c.index.ensures ∙ past_highest c.args.types.now c.types_are_grouped.ensures c.in-Some.id c.in-Some.ensures

pub returns-in-None-clause-count : goal.returns-in-None-clause-count
returns-in-None-clause-count c = past_none c.args.types.now c.types_are_grouped.ensures c.in-None.ensures

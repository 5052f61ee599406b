use Rattle.std.proofs.Common.{arith}
use Rattle.walrus_type_index.proofs.DirectoryLemmas.{last-inside, last-past}
use Rattle.walrus_type_index.proofs.forest.set_top.Goals as goal

pub returns-then-place-len-clause-last : goal.returns-then-place-len-clause-last
returns-then-place-len-clause-last c = last-inside c.args.tops.now.items c.args.place c.args.last.now c.args.top (omega (arith, c.if-place-len.true, c.len.ensures))

pub returns-clause-last : goal.returns-clause-last
returns-clause-last c = last-past c.args.tops.now.items c.args.place c.args.last.now c.args.top (omega (arith, c.if-place-len.false, c.len.ensures))

use Rattle.std.proofs.Common.{rules}
use Rattle.walrus_collections.specs.Found.{found_live}
use Rattle.walrus_collections.proofs.collection.Collection.lowest.Goals as goal

pub returns-then-passes-clause-live : goal.returns-then-passes-clause-live
returns-then-passes-clause-live g c = found_live (g.P.Test.passes c.args.test.now) c.args.self.now c.in-Some.id c.in-Some.item.now (search rules)

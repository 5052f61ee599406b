use Rattle.std.proofs.Common.{rules}
use Rattle.walrus_collections.proofs.exports.Collection+Export+ExportSpace.add.Goals as goal

pub returns-clause-added : goal.returns-clause-added
returns-clause-added g c = (c.into-item.result, c.into-item.ensures, (c.new.result, search rules, search rules))

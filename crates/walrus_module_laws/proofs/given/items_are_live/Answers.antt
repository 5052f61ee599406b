use Rattle.walrus_module_laws.proofs.GivenLemmas.{items_live}
use Rattle.walrus_module_laws.proofs.given.items_are_live.Goals as goal

pub returns : goal.returns
returns g c = items_live c.args.collection.now

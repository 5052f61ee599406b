use Rattle.walrus_module_laws.proofs.GivenLemmas.{locals_live}
use Rattle.walrus_module_laws.proofs.given.locals_are_live.Goals as goal

pub returns : goal.returns
returns c = locals_live c.args.functions.now

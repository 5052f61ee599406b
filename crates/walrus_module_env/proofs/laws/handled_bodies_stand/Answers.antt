use Rattle.walrus_module_env.proofs.HandledLemmas as handled
use Rattle.walrus_module_env.proofs.laws.handled_bodies_stand.Goals as goal

pub returns : goal.returns
returns c = handled.handled_bodies_stand c.handlers_stand.ensures c.trees_tell.ensures

use Rattle.walrus_emit.proofs.WholeLemmas.{wrote_types}
use Rattle.walrus_emit.proofs.emit.ModuleTypesEmit.emit.Goals as goal

pub returns-clause-written : goal.returns-clause-written
returns-clause-written g c = wrote_types c.args.self.now c.in_ok-types.types _ _ _ c.in_ok-types.ensures.emitted c.emit_types.ensures

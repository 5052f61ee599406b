use Rattle.walrus_emit_values.proofs.Lemmas.{lacks_index}
use Rattle.walrus_emit_values.proofs.types.write_index.Goals as goal

pub returns-in-None : goal.returns-in-None
returns-in-None c = lacks_index c.args.space c.args.number _ c.in-None.is

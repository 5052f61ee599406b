use Rattle.walrus_emit_values.proofs.Lemmas.{lacks_type}
use Rattle.walrus_emit_values.proofs.types.write_signed_index.Goals as goal

pub returns-in-None : goal.returns-in-None
returns-in-None c = lacks_type c.args.number _ c.in-None.is

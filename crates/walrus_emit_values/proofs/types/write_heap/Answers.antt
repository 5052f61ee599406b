use Rattle.walrus_emit_values.proofs.Lemmas.{lacks_exact}
use Rattle.walrus_emit_values.proofs.types.write_heap.Goals as goal

pub returns-in-Exact : goal.returns-in-Exact
returns-in-Exact c = lacks_exact _ c.args.ty c.in-Exact.field-0 _ c.in-Exact.is

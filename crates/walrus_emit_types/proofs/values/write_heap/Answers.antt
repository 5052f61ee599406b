use Rattle.std.proofs.Common.{ap}
use Rattle.walrus_forms.specs.Records.{heap_of}
use Rattle.walrus_emit_values.proofs.Lemmas.{lacks_exact}
use Rattle.walrus_emit_due.specs.Types.{itself}
use Rattle.walrus_emit_types.proofs.values.write_heap.Goals as goal

pub returns-in-Exact : goal.returns-in-Exact
returns-in-Exact c = lacks_exact itself (heap_of c.args.ty) c.in-Exact.field-0 _ (ap heap_of c.in-Exact.is)

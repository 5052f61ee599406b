use Rattle.walrus_emit_sections.proofs.SegmentLemmas.{lacks_memory}
use Rattle.walrus_emit_sections.proofs.data.write_active.Goals as goal

pub returns-in-None : goal.returns-in-None
returns-in-None c = lacks_memory _ c.args.memory _ _ _ c.in-None.is

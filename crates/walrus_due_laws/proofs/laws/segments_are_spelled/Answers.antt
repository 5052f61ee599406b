use Rattle.walrus_due_laws.proofs.Segments.{segments_spelled}
use Rattle.walrus_due_laws.proofs.laws.segments_are_spelled.Goals as goal

pub returns : goal.returns
returns c = segments_spelled

use Rattle.walrus_rewritten_laws.proofs.Segments.{tell_segments}
use Rattle.walrus_rewritten_laws.proofs.laws.plans_tell_segments.Goals as goal

pub returns : goal.returns
returns g c = tell_segments

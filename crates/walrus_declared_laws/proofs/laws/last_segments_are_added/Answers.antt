use Rattle.walrus_declared_laws.proofs.Added.{last_added}
use Rattle.walrus_declared_laws.proofs.laws.last_segments_are_added.Goals as goal

pub returns : goal.returns
returns c = last_added

use Rattle.walrus_kept_laws.proofs.Left.{means_left}
use Rattle.walrus_kept_laws.proofs.laws.means_left.Goals as goal

pub returns : goal.returns
returns c = means_left

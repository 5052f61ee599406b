use Rattle.walrus_rewritten_laws.proofs.Rewritten.{spelled_rewritten}
use Rattle.walrus_rewritten_laws.proofs.laws.spelled_parts_are_rewritten.Goals as goal

pub returns : goal.returns
returns c = spelled_rewritten c.spelled_are_canonical.ensures

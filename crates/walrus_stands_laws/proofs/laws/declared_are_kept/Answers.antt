use Rattle.walrus_stands_laws.proofs.Declared.{declared_are_kept}
use Rattle.walrus_stands_laws.proofs.laws.declared_are_kept.Goals as goal

pub returns : goal.returns
returns c = declared_are_kept

use Rattle.walrus_declared_laws.proofs.Retyped.{retyped_parts}
use Rattle.walrus_declared_laws.proofs.laws.retyped_parts_are_same.Goals as goal

pub returns : goal.returns
returns c = retyped_parts c.renamings_compose.ensures

use Rattle.walrus_kept_types_laws.proofs.Settled.{read_settled}
use Rattle.walrus_kept_types_laws.proofs.laws.read_types_are_settled.Goals as goal

pub returns : goal.returns
returns g c = read_settled c.read_types_are_declared.ensures

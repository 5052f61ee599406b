use Rattle.walrus_customs_laws.proofs.ReadLocals.{read_local_names_last}
use Rattle.walrus_customs_laws.proofs.laws.read_local_names_are_last.Goals as goal

pub returns : goal.returns
returns g c = read_local_names_last _ c.names_are_there.ensures

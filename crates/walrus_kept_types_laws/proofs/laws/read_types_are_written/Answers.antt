use Rattle.walrus_kept_types_laws.proofs.Kept.{read_written}
use Rattle.walrus_kept_types_laws.proofs.laws.read_types_are_written.Goals as goal

pub returns : goal.returns
returns g c = read_written c.read_types_are_read.ensures c.kept_types_are_written.ensures

use Rattle.walrus_kept_types_laws.proofs.Written.{kept_types_written}
use Rattle.walrus_kept_types_laws.proofs.laws.kept_types_are_written.Goals as goal

pub returns : goal.returns
returns c = kept_types_written c.edited_are_read_back.ensures

use Rattle.walrus_kept_types_laws.proofs.Read.{read_are_read}
use Rattle.walrus_kept_types_laws.proofs.laws.read_types_are_read.Goals as goal

pub returns : goal.returns
returns g c = read_are_read c.parsing_carries_same.ensures c.handlers_are_missing.ensures c.types_are_merged.ensures.none c.types_are_merged.ensures.merged c.read_types_are_settled.ensures

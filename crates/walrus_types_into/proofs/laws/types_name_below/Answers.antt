use Rattle.walrus_types_into.proofs.BelowLemmas.{types_name_below}
use Rattle.walrus_types_into.proofs.laws.types_name_below.Goals as goal

pub returns : goal.returns
returns c = types_name_below

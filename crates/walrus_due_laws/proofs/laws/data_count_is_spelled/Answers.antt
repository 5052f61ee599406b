use Rattle.walrus_due_laws.proofs.DataCounts.{data_count_spelled}
use Rattle.walrus_due_laws.proofs.laws.data_count_is_spelled.Goals as goal

pub returns : goal.returns
returns c = data_count_spelled

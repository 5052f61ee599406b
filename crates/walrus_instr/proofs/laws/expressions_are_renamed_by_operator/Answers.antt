use Rattle.walrus_instr.proofs.RenamedLemmas.{ops_are_renamed}
use Rattle.walrus_instr.proofs.laws.expressions_are_renamed_by_operator.Goals as goal

pub returns : goal.returns
returns c = ops_are_renamed

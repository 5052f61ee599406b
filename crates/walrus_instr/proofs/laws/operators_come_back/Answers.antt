use Rattle.walrus_instr.proofs.RenamedLemmas.{ops_come_back}
use Rattle.walrus_instr.proofs.laws.operators_come_back.Goals as goal

pub returns : goal.returns
returns c = ops_come_back

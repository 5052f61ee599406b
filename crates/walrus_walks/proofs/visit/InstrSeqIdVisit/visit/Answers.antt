use Rattle.std.proofs.Common.{refl}
use Rattle.walrus_walks.proofs.visit.InstrSeqIdVisit.visit.Goals as goal

pub returns : goal.returns
returns g c = (c.visit_instr_seq_id.new.self, c.visit_instr_seq_id.ensures, refl)

use Rattle.walrus_walks.proofs.visit_mut.InstrSeqIdVisitMut.visit_mut.Goals as goal

pub returns : goal.returns
returns g c = c.visit_instr_seq_id_mut.ensures

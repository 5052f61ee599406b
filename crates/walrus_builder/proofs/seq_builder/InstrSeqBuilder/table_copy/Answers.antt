use Rattle.walrus_builder.proofs.seq_builder.InstrSeqBuilder.table_copy.Goals as goal

pub returns : goal.returns
returns c = c.instr.ensures

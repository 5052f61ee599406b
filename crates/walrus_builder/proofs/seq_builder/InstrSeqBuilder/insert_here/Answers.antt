use Rattle.walrus_builder.proofs.BuiltLemmas.{edits_cut}
use Rattle.walrus_builder.proofs.seq_builder.InstrSeqBuilder.insert_here.Goals as goal

pub returns : goal.returns
returns c = edits_cut c.args.self.now c.args.instr c.args.position c.min-within.result c.instrs.result.now c.instr_at.result c.instr_at.new.self c.instrs.ensures c.min-within.ensures c.instr_at.ensures

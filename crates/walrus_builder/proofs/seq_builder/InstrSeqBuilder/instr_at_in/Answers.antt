use Rattle.walrus_builder.specs.Built.{inserts}
use Rattle.walrus_builder.proofs.BuiltLemmas.{edits_nowhere}
use Rattle.walrus_builder.proofs.seq_builder.InstrSeqBuilder.instr_at_in.Goals as goal

pub returns-else-eq : goal.returns-else-eq
returns-else-eq c = edits_nowhere c.args.self.now c.args.outer c.id.result (inserts c.args.position c.args.instr) c.requires c.id.ensures.id c.if-eq.ensures

use Rattle.walrus_builder.specs.Built.{filled_with}
use Rattle.walrus_builder.specs.Edited.{written_edits}
use Rattle.std.proofs.Common.{refl}
use Rattle.walrus_builder.proofs.function.FunctionBuilder.fill.Goals as goal

pub returns-clause-filled : goal.returns-clause-filled
returns-clause-filled c = written_edits (filled_with c.args.instrs.items c.args.end) c.args.self.now.builder.seqs c.args.id c.seq_mut-seq.result.now _ c.seq_mut-seq.ensures.value refl

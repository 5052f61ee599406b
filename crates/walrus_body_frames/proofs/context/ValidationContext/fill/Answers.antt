use Rattle.std.proofs.Common.{◌≡◌, length, ap, arith}
use Rattle.std.proofs.lemmas.List.{length-map}
use Rattle.walrus_builder.specs.Built.{seq_of, filled_with, contents}
use Rattle.walrus_body_frames.proofs.Editing.{edits_past}
use Rattle.walrus_body_frames.proofs.context.ValidationContext.fill.Goals as goal

pub returns-else-index-seqs-clause-filled : goal.returns-else-index-seqs-clause-filled
returns-else-index-seqs-clause-filled c =
    let b = c.args.self.now.function.builder in
    let count : length (contents b) ≡ length b.seqs = length-map b.seqs seq_of in
    let at = c.index.ensures in
    let seqs = ap length c.seqs.ensures in
    let past = c.if-index-seqs.false in
    edits_past (filled_with c.args.instrs.items c.args.end) (contents b) c.args.block (omega (arith, count, at, seqs, past))

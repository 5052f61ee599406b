use Rattle.std.proofs.Common.{refl}
use Rattle.walrus_builder.specs.Built.{pushes_from}
use Rattle.walrus_builder.proofs.BuiltLemmas.{edited_set, kept_set, edits_err, edits_ok, instrs_become}
use Rattle.walrus_builder.proofs.seq_builder.InstrSeqBuilder.instr_with_location.Goals as goal

pub returns-in_err-push : goal.returns-in_err-push
returns-in_err-push c =
    let s = c.index_mut-seq.result.now in
    let same = instrs_become s c.push.new.self.items s.instrs.items c.in_err-push.ensures.items in
    let kept = kept_set c.self.inside.seqs.items c.index.result c.self.inside.id s _ c.index.ensures c.self.invariant c.index_mut-seq.ensures.value same in
    rw (← c.self.view_is) (edits_err _ _ _ _ c.from_residual.ensures.0 refl kept)

pub returns : goal.returns
returns c =
    let s = c.index_mut-seq.result.now in
    let same = instrs_become s c.push.new.self.items _ c.in_ok-push.ensures.items in
    rw (← c.self.view_is) (edits_ok _ _ _ refl (edited_set (pushes_from c.args.location c.args.instr) c.self.inside.seqs.items c.index.result c.self.inside.id s _ c.index.ensures c.self.invariant c.index_mut-seq.ensures.value same))

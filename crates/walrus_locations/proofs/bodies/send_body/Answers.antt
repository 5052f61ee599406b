use Rattle.std.proofs.Common.{ap, arith, length}
use Rattle.walrus_locations.proofs.SendLemmas.{seqs_begin, seqs_end, seqs_go_on}
use Rattle.walrus_locations.proofs.bodies.send_body.Goals as goal

pub loop-index-init : goal.loop-index-init
loop-index-init g c = seqs_begin (goal.F-step g) c.args.sends.now c.args.body.now

pub loop-index-preserved : goal.loop-index-preserved
loop-index-preserved g c =
    seqs_go_on (goal.F-step g) c.args.sends.now c.args.body.now c.loop-index.sends c.send_seq.new.sends c.loop-index.body c.loop-index.index c.from_index-id.result c.seq_mut.result.now c.send_seq.new.seq c.from_index-id.ensures c.seq_mut.ensures.value c.send_seq.ensures c.loop-index.invariant

pub returns : goal.returns
returns g c =
    seqs_end (goal.F-step g) c.args.sends.now c.args.body.now c.loop-index.sends c.loop-index.body c.loop-index.index (omega (arith, c.loop-index-test.false, c.loop-index.auto.index-end, c.loop-index.invariant.many, ap length c.seqs-count.ensures)) c.loop-index.invariant

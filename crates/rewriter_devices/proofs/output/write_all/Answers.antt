use Rattle.std.proofs.Common.{false, true, ◌≡◌, arith, length-drop}
use Rattle.std.proofs.KnownBytes.{Appends-trans}
use Rattle.std.proofs.lemmas.List.{take_rest}
use lib.Seq.{take-add}
use Rattle.rewriter_devices.proofs.output.write_all.Goals as goal

pub loop-written-preserved : goal.loop-written-preserved
loop-written-preserved g c =
    let bytes = c.args.bytes.now in
    let before = c.loop-written.written in
    let count = c.in-Ok.count in
    let appended = rw (take_rest bytes before) at c.in-Ok.ensures.bytes in
    record {
      within = omega (arith, length-drop before bytes, c.in-Ok.ensures.bound);
      sent = rw (take-add before count bytes) (Appends-trans _ _ _ _ _ c.loop-written.invariant.sent appended);
      stays = λ h. let bad : false ≡ true = c.in-Ok.ensures.stays_failed (c.loop-written.invariant.stays h) in cc;
    }

-- What was written is the front of the bytes, and a sink that had failed takes nothing.
use Rattle.std.proofs.Common.{length, ◌-◌, ◌≡◌, ◌≤◌, true, take}
use Rattle.std.specs.Io.KnownBytes.{Appends}
use Rattle.rewriter_devices.proofs.output.write_all.Given as goal

abbrev pub invariant-loop-written : goal.invariant-loop-written
invariant-loop-written g l = record {
  within : l.written ≤ length l.bytes;
  sent : Appends (g.W.Sink.taken l.initial.writer) (g.W.Sink.taken l.writer) (take l.written l.bytes);
  stays : g.W.Sink.failed l.initial.writer ≡ true → g.W.Sink.failed l.writer ≡ true;
}

abbrev pub decreases-loop-written : goal.decreases-loop-written
decreases-loop-written g l = length l.bytes - l.written

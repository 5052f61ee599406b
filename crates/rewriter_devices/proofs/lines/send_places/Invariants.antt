-- The lines so far were taken, and what is left of the places has the others.
use Rattle.std.proofs.Common.{◌≡◌, ◌≤◌, ◌+◌, ◌*◌, ℕ, List, ◌++◌, true, length}
use Rattle.std.specs.Io.KnownBytes.{Appends}
use Rattle.rewriter_devices.specs.Lines.{lines_of}
use Rattle.rewriter_devices.proofs.lines.send_places.Given as goal

abbrev pub invariant-loop-chunk : goal.invariant-loop-chunk
invariant-loop-chunk g l = (front : List ℕ) × record {
  split : lines_of l.places ≡ front ++ lines_of l.chunk-iterator.rest.now;
  counted : l.written ≡ length front;
  short : l.written + 22 * length l.chunk-iterator.rest.now ≤ 22 * length l.places;
  sent : Appends (g.W.Sink.taken l.initial.writer) (g.W.Sink.taken l.writer) front;
  stays : g.W.Sink.failed l.initial.writer ≡ true → g.W.Sink.failed l.writer ≡ true;
}

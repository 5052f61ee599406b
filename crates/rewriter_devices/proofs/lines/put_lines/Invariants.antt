-- The lines of the places from the index on stand at the end, with room for the others before them.
use Rattle.std.proofs.Common.{◌≡◌, ◌≤◌, ◌+◌, ◌*◌, length, drop}
use Rattle.rewriter_devices.specs.Lines.{lines_of}
use Rattle.rewriter_devices.proofs.lines.put_lines.Given as goal

abbrev pub invariant-loop-index : goal.invariant-loop-index
invariant-loop-index l = record {
  below : l.index ≤ length l.places;
  room : 22 * l.index ≤ l.start;
  within : l.start ≤ length l.buffer;
  short : length l.buffer + 22 * l.index ≤ l.start + 22 * length l.places;
  lines : drop l.start l.buffer ≡ lines_of (drop l.index l.places);
}

-- What was read so far is what the source gave, in no more reads than bytes.
use Rattle.std.proofs.Common.{◌≡◌, ◌≤◌, ◌+◌, ◌-◌, ◌^◌, true, false, ◌<◌, vec_len}
use Rattle.std.specs.Io.KnownBytes.{Consumes}
use Rattle.rewriter_devices.proofs.input.read_all.Given as goal

abbrev pub invariant-loop-buffer : goal.invariant-loop-buffer
invariant-loop-buffer g l = record {
  within : vec_len l.bytes ≤ 2 ^ 30 + 1;
  read : Consumes (g.R.Source.left l.initial.reader) (g.R.Source.left l.reader) l.bytes.items;
  sound : 0 < vec_len l.bytes → g.R.Source.failed l.reader ≡ false;
  stays : g.R.Source.failed l.initial.reader ≡ true → g.R.Source.failed l.reader ≡ true;
  counted : g.R.Source.reads l.reader ≤ g.R.Source.reads l.initial.reader + vec_len l.bytes;
}

abbrev pub decreases-loop-buffer : goal.decreases-loop-buffer
decreases-loop-buffer g l = (2 ^ 30 + 1) - vec_len l.bytes

use Rattle.std.proofs.Common.{◌≡◌, fold, take}
use Rattle.input_words.specs.Starts.{start_then}
use Rattle.input_words.proofs.start.Start.after.Given as goal

abbrev pub invariant-loop-byte : goal.invariant-loop-byte
invariant-loop-byte l = l.start ≡ fold start_then l.fn.self (take l.byte-index l.bytes)

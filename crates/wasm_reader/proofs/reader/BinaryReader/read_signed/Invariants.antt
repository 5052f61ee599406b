use Rattle.std.proofs.Common.{◌-◌}
use Rattle.wasm_reader.specs.Numbers.{signed}
use Rattle.wasm_reader.proofs.Loop.{Rises, raises_signed}
use Rattle.wasm_reader.proofs.reader.BinaryReader.read_signed.Given as goal

abbrev pub invariant-loop-byte : goal.invariant-loop-byte
invariant-loop-byte l = Rises signed raises_signed l.wrong l.fn.self l.self l.width l.shift l.low

abbrev pub decreases-loop-byte : goal.decreases-loop-byte
decreases-loop-byte l = l.width - l.shift

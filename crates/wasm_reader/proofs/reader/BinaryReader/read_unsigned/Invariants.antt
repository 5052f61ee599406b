use Rattle.std.proofs.Common.{◌-◌}
use Rattle.wasm_reader.specs.Numbers.{unsigned}
use Rattle.wasm_reader.specs.declared.error.ErrorKind.TheVariants.{TooLarge}
use Rattle.wasm_reader.proofs.Loop.{Rises, raises_unsigned}
use Rattle.wasm_reader.proofs.reader.BinaryReader.read_unsigned.Given as goal

abbrev pub invariant-loop-byte : goal.invariant-loop-byte
invariant-loop-byte l = Rises unsigned raises_unsigned TooLarge l.fn.self l.self l.width l.shift l.low

abbrev pub decreases-loop-byte : goal.decreases-loop-byte
decreases-loop-byte l = l.width - l.shift

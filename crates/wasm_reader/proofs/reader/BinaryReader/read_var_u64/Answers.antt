use Rattle.std.proofs.Common.{arith}
use Rattle.wasm_reader.specs.declared.error.ErrorKind.TheVariants.{TooLarge}
use Rattle.wasm_reader.proofs.Small.{small_unsigned}
use Rattle.wasm_reader.proofs.reader.BinaryReader.read_var_u64.Goals as goal

pub returns-in-Some : goal.returns-in-Some
returns-in-Some c = small_unsigned TooLarge 64 c.in-Some.byte c.from.result c.args.self.now c.read_small.new.self c.in-Some.ensures.taken c.in-Some.ensures.small (omega arith) c.from.ensures

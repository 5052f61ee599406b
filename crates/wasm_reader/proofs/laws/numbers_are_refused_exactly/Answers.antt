use Rattle.std.proofs.Common.{arith}
use Rattle.wasm_reader.specs.declared.error.ErrorKind.TheVariants.{TooLarge, TooLong}
use Rattle.wasm_reader.specs.Numbers.{unsigned, signed}
use Rattle.wasm_reader.proofs.Refused.{refuses_exactly}
use Rattle.wasm_reader.proofs.laws.numbers_are_refused_exactly.Goals as goal

pub returns-clause-unsigned : goal.returns-clause-unsigned
returns-clause-unsigned c = refuses_exactly unsigned TooLarge

pub returns-clause-signed : goal.returns-clause-signed
returns-clause-signed c = refuses_exactly signed TooLarge

pub returns-clause-s33 : goal.returns-clause-s33
returns-clause-s33 c = refuses_exactly signed TooLong 33 (omega arith)

use Rattle.wasm_reader.specs.Finals.{unsigned_final, signed_final, s33_final, size_final}
use Rattle.wasm_reader.proofs.laws.numbers_are_final.Goals as goal

pub returns-clause-unsigned : goal.returns-clause-unsigned
returns-clause-unsigned c = unsigned_final

pub returns-clause-signed : goal.returns-clause-signed
returns-clause-signed c = signed_final

pub returns-clause-s33 : goal.returns-clause-s33
returns-clause-s33 c = s33_final

pub returns-clause-size : goal.returns-clause-size
returns-clause-size c = size_final

use Rattle.wasm_reader.specs.Spelled.{IsShortest-unsigned, IsShortest-signed}
use Rattle.wasm_reader.proofs.laws.shortest_spellings_are_shortest.Goals as goal

pub returns-clause-unsigned : goal.returns-clause-unsigned
returns-clause-unsigned c = IsShortest-unsigned

pub returns-clause-signed : goal.returns-clause-signed
returns-clause-signed c = IsShortest-signed

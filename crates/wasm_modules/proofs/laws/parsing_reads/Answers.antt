use Rattle.wasm_modules.specs.Read.{parsing_reads}
use Rattle.wasm_modules.proofs.laws.parsing_reads.Goals as goal

pub returns : goal.returns
returns c = parsing_reads

use Rattle.wasm_body_grammar.specs.ReadCodes.{parsing_reads_all}
use Rattle.wasm_body_grammar.proofs.laws.parsing_reads_all.Goals as goal

pub returns : goal.returns
returns c = parsing_reads_all

use Rattle.wasm_body_grammar.specs.Read.{parsing_reads}
use Rattle.wasm_body_grammar.proofs.laws.parsing_reads.Goals as goal

pub returns : goal.returns
returns c = parsing_reads

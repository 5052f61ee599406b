use Rattle.wasm_grammar_bytes.specs.Maximal.{each_has_maximal_runs}
use Rattle.wasm_grammar_bytes.proofs.laws.each_has_maximal_runs.Goals as goal

pub returns : goal.returns
returns c = each_has_maximal_runs

use Rattle.wasm_grammar_bytes.specs.Runs.{maximal_runs_are_shortest}
use Rattle.wasm_grammar_bytes.proofs.laws.maximal_runs_are_shortest.Goals as goal

pub returns : goal.returns
returns c = maximal_runs_are_shortest

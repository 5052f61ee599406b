use Rattle.wasm_run_laws.proofs.Bodies.{body_runs_renamed, normal_runs_renamed}
use Rattle.wasm_run_laws.proofs.laws.bodies_run_renamed.Goals as goal

pub returns-clause-renamed : goal.returns-clause-renamed
returns-clause-renamed c = body_runs_renamed c.trees_are_one.ensures c.normal_forms_are_normal.ensures.nests

pub returns-clause-normal : goal.returns-clause-normal
returns-clause-normal c = normal_runs_renamed c.trees_are_one.ensures c.normal_forms_are_normal.ensures.nests

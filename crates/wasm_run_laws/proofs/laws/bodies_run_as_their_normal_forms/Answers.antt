use Rattle.wasm_run_laws.proofs.Bodies.{normal_runs_the_same, normal_body_runs_the_same}
use Rattle.wasm_run_laws.proofs.laws.bodies_run_as_their_normal_forms.Goals as goal

pub returns-clause-same : goal.returns-clause-same
returns-clause-same c = normal_runs_the_same c.trees_are_one.ensures c.normal_forms_are_normal.ensures.nests

pub returns-clause-renumbered : goal.returns-clause-renumbered
returns-clause-renumbered c = normal_body_runs_the_same c.trees_are_one.ensures c.normal_forms_are_normal.ensures.nests

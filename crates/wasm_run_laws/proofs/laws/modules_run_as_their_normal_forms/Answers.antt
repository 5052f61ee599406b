use Rattle.wasm_run_laws.proofs.Modules.{normal_module_runs_the_same}
use Rattle.wasm_run_laws.proofs.laws.modules_run_as_their_normal_forms.Goals as goal

pub returns : goal.returns
returns c = normal_module_runs_the_same c.trees_are_one.ensures c.normal_forms_are_normal.ensures.nests

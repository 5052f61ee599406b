use Rattle.wasm_run_laws.proofs.Modules.{runs_correspond as law, renamed_correspond}
use Rattle.wasm_run_laws.proofs.laws.runs_correspond.Goals as goal

pub returns-clause-normal : goal.returns-clause-normal
returns-clause-normal c = law c.trees_are_one.ensures c.normal_forms_are_normal.ensures.nests

pub returns-clause-renamed : goal.returns-clause-renamed
returns-clause-renamed c = renamed_correspond c.trees_are_one.ensures c.normal_forms_are_normal.ensures.nests

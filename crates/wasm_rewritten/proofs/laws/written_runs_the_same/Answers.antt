use Rattle.wasm_rewritten.proofs.Run.{runs_correspond, runs_same}
use Rattle.wasm_rewritten.proofs.laws.written_runs_the_same.Goals as goal

pub returns-clause-runs : goal.returns-clause-runs
returns-clause-runs c = runs_same c.written_stands_normal.ensures c.trees_are_one.ensures c.normal_forms_are_normal.ensures.nests

pub returns-clause-correspond : goal.returns-clause-correspond
returns-clause-correspond c =
    runs_correspond (runs_same c.written_stands_normal.ensures c.trees_are_one.ensures c.normal_forms_are_normal.ensures.nests) c.entries_are_kept.ensures.kept c.each_run_has_one_trace.ensures.ends c.each_run_has_one_trace.ensures.one

use Rattle.wasm_rewritten.proofs.Rewritten.{files_asked, rewritten_correspond}
use Rattle.wasm_rewritten.proofs.laws.rewritten_runs_correspond.Goals as goal

pub returns-clause-asked : goal.returns-clause-asked
returns-clause-asked c = files_asked c.normal_forms_of_read_modules_are_ruled.ensures.rules c.new_kinds_stand_behind.ensures.behind c.new_kinds_stand_behind.ensures.missing

pub returns-clause-runs : goal.returns-clause-runs
returns-clause-runs c =
    rewritten_correspond (files_asked c.normal_forms_of_read_modules_are_ruled.ensures.rules c.new_kinds_stand_behind.ensures.behind c.new_kinds_stand_behind.ensures.missing) c.handlers_are_missing.ensures c.written_runs_the_same.ensures.correspond

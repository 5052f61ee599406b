use Rattle.wasm_rewriting_laws.proofs.Rewriting.{alike_rewritten, padding_dropped}
use Rattle.wasm_rewriting_laws.proofs.laws.padding_is_dropped.Goals as goal

pub returns-clause-alike : goal.returns-clause-alike
returns-clause-alike c =
    alike_rewritten c.handlers_are_missing.ensures c.rewritten_runs_correspond.ensures.asked c.read_files_are_orderly.ensures c.files_name_their_locals.ensures c.reads_once.ensures c.plan_is_told.ensures

pub returns-clause-padding : goal.returns-clause-padding
returns-clause-padding c =
    padding_dropped c.modules_have_shortest.ensures c.reads_once.ensures
    (alike_rewritten c.handlers_are_missing.ensures c.rewritten_runs_correspond.ensures.asked c.read_files_are_orderly.ensures c.files_name_their_locals.ensures c.reads_once.ensures c.plan_is_told.ensures)

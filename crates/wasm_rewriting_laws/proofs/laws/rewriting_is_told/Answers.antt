use Rattle.wasm_rewriting_laws.proofs.Rewriting.{rewriting_told}
use Rattle.wasm_rewriting_laws.proofs.laws.rewriting_is_told.Goals as goal

pub returns : goal.returns
returns c =
    rewriting_told c.handlers_are_missing.ensures c.rewritten_runs_correspond.ensures.asked c.read_files_are_orderly.ensures c.files_name_their_locals.ensures c.reads_once.ensures c.plan_is_told.ensures

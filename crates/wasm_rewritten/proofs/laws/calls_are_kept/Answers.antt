use Rattle.wasm_rewritten.proofs.Calls.{calls_kept}
use Rattle.wasm_rewritten.proofs.laws.calls_are_kept.Goals as goal

pub returns : goal.returns
returns c = calls_kept c.written_stands_normal.ensures c.trees_are_one.ensures c.normal_forms_are_normal.ensures.nests

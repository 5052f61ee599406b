use Rattle.wasm_rewritten.proofs.Ruled.{files_picked}
use Rattle.wasm_rewritten.proofs.laws.read_files_are_picked.Goals as goal

pub returns : goal.returns
returns c = files_picked c.blocks_open.ensures c.handlers_are_missing.ensures c.merged_files_are_ruled.ensures

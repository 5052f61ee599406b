use Rattle.wasm_merged_modules.proofs.Merged.{modules_merged}
use Rattle.wasm_merged_modules.proofs.laws.merged_modules_are_ruled.Goals as goal

pub returns : goal.returns
returns c = modules_merged c.types_are_merged.ensures.merged c.normal_modules_are_ruled.ensures c.block_types_are_their_picks.ensures

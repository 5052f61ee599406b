use Rattle.wasm_normal_modules.proofs.Picked.{modules_picked}
use Rattle.wasm_normal_modules.proofs.laws.block_types_are_their_picks.Goals as goal

pub returns : goal.returns
returns c = modules_picked c.normal_operators_are_ruled.ensures.operators c.normal_operators_are_ruled.ensures.picked c.retyped_types_serve.ensures.picks

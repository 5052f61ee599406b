use Rattle.wasm_spelled_parts_laws.proofs.Ruled.{counted_ruled}
use Rattle.wasm_spelled_parts_laws.proofs.laws.counted_parts_are_ruled.Goals as goal

pub returns : goal.returns
returns c = counted_ruled c.names_are_renamed.ensures c.written_parts_are_ruled.ensures

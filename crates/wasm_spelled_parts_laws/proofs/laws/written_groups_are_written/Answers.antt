use Rattle.wasm_spelled_parts_laws.proofs.Dense.{groups_are_written}
use Rattle.wasm_spelled_parts_laws.proofs.laws.written_groups_are_written.Goals as goal

pub returns : goal.returns
returns c = groups_are_written

use Rattle.wasm_spelled_parts_laws.proofs.Joined.{due_read}
use Rattle.wasm_spelled_parts_laws.proofs.laws.due_parts_are_read.Goals as goal

pub returns : goal.returns
returns c = due_read c.due_parts_are_written.ensures c.spelled_are_canonical.ensures

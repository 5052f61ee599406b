use Rattle.wasm_spelled_parts_laws.proofs.Joined.{due_rewritten}
use Rattle.wasm_spelled_parts_laws.proofs.laws.due_parts_are_rewritten.Goals as goal

pub returns : goal.returns
returns c = due_rewritten c.due_parts_are_written.ensures c.due_parts_are_read.ensures c.written_pairs_are_places.ensures

use Rattle.wasm_spelled_parts_laws.proofs.Joined.{due_written}
use Rattle.wasm_spelled_parts_laws.proofs.laws.due_parts_are_written.Goals as goal

pub returns : goal.returns
returns c = due_written c.written_parts_are_dense.ensures c.counted_parts_are_ruled.ensures c.written_customs_are_in_order.ensures c.read_items_are_in.ensures c.written_items_are_in.ensures c.items_in_are_spelled.ensures

use Rattle.wasm_spelled_parts_laws.proofs.Dense.{parts_are_dense}
use Rattle.wasm_spelled_parts_laws.proofs.laws.written_parts_are_dense.Goals as goal

pub returns : goal.returns
returns c = parts_are_dense c.written_groups_are_written.ensures c.read_files_are_orderly.ensures c.parts_are_dense.ensures

use Rattle.wasm_rewritten_rows.proofs.Computed.{files_written}
use Rattle.wasm_rewritten_rows.proofs.worked_files_are_written.Goals as goal

pub returns : goal.returns
returns c = files_written

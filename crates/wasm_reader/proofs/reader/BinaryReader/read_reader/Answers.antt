use Rattle.std.proofs.Common.{arith}
use Rattle.wasm_reader.proofs.Runs.{run_within}
use Rattle.wasm_reader.proofs.reader.BinaryReader.read_reader.Goals as goal

pub invariant_of-result : goal.invariant_of-result
invariant_of-result c =
    let within = run_within _ _ _ _ c.in_ok-buffer.ensures.bytes.value in
    (omega arith, omega arith)

use Rattle.wasm_composite_types.specs.wasm_reader.Shortest.{shortest_unsigned}
use Rattle.wasm_operators.specs.Bytes.{unsigned_bytes}
use Rattle.wasm_operators.proofs.Shortens.{Shortens}
use Rattle.wasm_operators.proofs.number.write_unsigned.Given as goal

abbrev pub invariant-loop-rest : goal.invariant-loop-rest
invariant-loop-rest l = Shortens shortest_unsigned 128 l.fn.out.items (unsigned_bytes l.fn.n) l.out.items l.rest

abbrev pub decreases-loop-rest : goal.decreases-loop-rest
decreases-loop-rest l = l.rest

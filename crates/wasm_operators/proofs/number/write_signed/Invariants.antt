use Rattle.wasm_operators.specs.Bytes.{signed_bytes}
use Rattle.wasm_operators.proofs.Shortens.{Shortens, spell_signed}
use Rattle.wasm_operators.proofs.number.write_signed.Given as goal

abbrev pub invariant-loop-rest : goal.invariant-loop-rest
invariant-loop-rest l = Shortens (spell_signed l.negative) 64 l.fn.out.items (signed_bytes l.fn.n) l.out.items l.rest

abbrev pub decreases-loop-rest : goal.decreases-loop-rest
decreases-loop-rest l = l.rest

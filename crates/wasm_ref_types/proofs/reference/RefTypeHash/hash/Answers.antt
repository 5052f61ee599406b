use Rattle.wasm_ref_types.proofs.Bits.{seen_bits}
use Rattle.wasm_ref_types.proofs.reference.RefTypeHash.hash.Goals as goal

pub returns : goal.returns
returns g c = rw (seen_bits _ _ c.self.invariant c.self.view_is) c.hash.ensures

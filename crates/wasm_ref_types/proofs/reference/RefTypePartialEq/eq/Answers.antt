use Rattle.wasm_ref_types.proofs.Compared.{bits_eq}
use Rattle.wasm_ref_types.proofs.reference.RefTypePartialEq.eq.Goals as goal

pub returns : goal.returns
returns c = bits_eq _ _ _ _ c.self.invariant c.self.view_is c.other.invariant c.other.view_is

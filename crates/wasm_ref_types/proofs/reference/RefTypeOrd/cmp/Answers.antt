use Rattle.std.proofs.Common.{◌∙◌}
use Rattle.wasm_ref_types.proofs.Compared.{bits_cmp}
use Rattle.wasm_ref_types.proofs.reference.RefTypeOrd.cmp.Goals as goal

pub returns : goal.returns
returns c = c.cmp.ensures ∙ bits_cmp _ _ _ _ c.self.invariant c.self.view_is c.other.invariant c.other.view_is

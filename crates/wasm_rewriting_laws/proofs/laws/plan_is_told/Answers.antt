use Rattle.wasm_rewriting_laws.proofs.Told.{plan_told}
use Rattle.wasm_rewriting_laws.proofs.laws.plan_is_told.Goals as goal

pub returns : goal.returns
returns c = plan_told c.numbered_operators_are_normal.ensures.decide c.kept_is_closed.ensures

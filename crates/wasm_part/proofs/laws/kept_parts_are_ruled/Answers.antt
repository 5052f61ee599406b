use Rattle.wasm_part.proofs.Written.{kept_parts_ruled}
use Rattle.wasm_part.proofs.laws.kept_parts_are_ruled.Goals as goal

pub returns : goal.returns
returns c = kept_parts_ruled c.emitted_types_stand.ensures c.read_back_types_lead.ensures c.kept_is_closed.ensures c.picked_types_serve.ensures c.parts_are_ruled.ensures

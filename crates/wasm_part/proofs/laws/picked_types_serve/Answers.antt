use Rattle.wasm_part.proofs.Served.{types_serve}
use Rattle.wasm_part.proofs.laws.picked_types_serve.Goals as goal

pub returns : goal.returns
returns c = types_serve c.same_kind_is_equality.ensures

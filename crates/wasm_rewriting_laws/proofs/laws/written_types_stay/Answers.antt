use Rattle.wasm_rewriting_laws.proofs.Stay.{types_stay}
use Rattle.wasm_rewriting_laws.proofs.laws.written_types_stay.Goals as goal

pub returns : goal.returns
returns c = types_stay c.emitted_types_stand.ensures

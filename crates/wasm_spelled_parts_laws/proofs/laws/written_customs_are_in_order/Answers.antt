use Rattle.wasm_spelled_parts_laws.proofs.Customs.{customs_ordered}
use Rattle.wasm_spelled_parts_laws.proofs.laws.written_customs_are_in_order.Goals as goal

pub returns : goal.returns
returns c = customs_ordered

use Rattle.wasm_ruled_renamed.proofs.Orders.{picks_there}
use Rattle.wasm_ruled_renamed.proofs.Types.{types_serve}
use Rattle.wasm_ruled_renamed.proofs.laws.retyped_types_serve.Goals as goal

pub returns-clause-serve : goal.returns-clause-serve
returns-clause-serve c = types_serve c.same_kind_is_equality.ensures

pub returns-clause-picks : goal.returns-clause-picks
returns-clause-picks c = picks_there c.same_kind_is_equality.ensures

use Rattle.wasm_ruled_renamed.proofs.Bodies.{bodies_renamed, bodies_ruled, same_normal}
use Rattle.wasm_ruled_renamed.proofs.laws.normal_bodies_are_ruled.Goals as goal

pub returns-clause-own : goal.returns-clause-own
returns-clause-own c = bodies_ruled c.normal_operators_are_ruled.ensures.operators

pub returns-clause-renamed : goal.returns-clause-renamed
returns-clause-renamed c = bodies_renamed c.normal_operators_are_ruled.ensures.operators

pub returns-clause-same : goal.returns-clause-same
returns-clause-same c = same_normal

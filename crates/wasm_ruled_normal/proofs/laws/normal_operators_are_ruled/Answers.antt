use Rattle.wasm_ruled_normal.proofs.Picked.{blocks_picked}
use Rattle.wasm_ruled_normal.proofs.Picks.{picked_own}
use Rattle.wasm_ruled_normal.proofs.Trees.{normal_operators}
use Rattle.wasm_ruled_normal.proofs.laws.normal_operators_are_ruled.Goals as goal

pub returns-clause-picks : goal.returns-clause-picks
returns-clause-picks c = λ a ty. picked_own c.same_kind_is_equality.ensures a ty

pub returns-clause-operators : goal.returns-clause-operators
returns-clause-operators c = λ place a locals ops below h. normal_operators c.same_kind_is_equality.ensures a below locals place ops h

pub returns-clause-picked : goal.returns-clause-picked
returns-clause-picked c = blocks_picked c.same_kind_is_equality.ensures

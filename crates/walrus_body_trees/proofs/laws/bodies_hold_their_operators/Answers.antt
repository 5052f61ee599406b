use Rattle.walrus_body_trees.proofs.Bodies.{holds}
use Rattle.walrus_body_trees.proofs.laws.bodies_hold_their_operators.Goals as goal

pub returns : goal.returns
returns c = holds c.operators_come_back.ensures c.operators_in_range_are_spelled.ensures c.trees_are_nested.ensures c.text_is_plain.ensures.plain

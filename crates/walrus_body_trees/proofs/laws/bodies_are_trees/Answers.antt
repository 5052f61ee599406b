use Rattle.walrus_body_trees.proofs.Bodies.{trees}
use Rattle.walrus_body_trees.proofs.laws.bodies_are_trees.Goals as goal

pub returns : goal.returns
returns c = trees c.operators_come_back.ensures c.operators_in_range_are_spelled.ensures

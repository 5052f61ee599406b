use Rattle.walrus_body_trees.proofs.Bodies.{means}
use Rattle.walrus_body_trees.proofs.laws.bodies_mean_their_normal_form.Goals as goal

pub returns : goal.returns
returns c = means c.operators_come_back.ensures c.operators_in_range_are_spelled.ensures c.trees_are_nested.ensures c.text_is_plain.ensures.plain

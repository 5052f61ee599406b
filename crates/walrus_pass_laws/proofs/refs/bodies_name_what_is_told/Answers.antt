use Rattle.walrus_pass_laws.proofs.Bodies.{bodies_told}
use Rattle.walrus_pass_laws.proofs.refs.bodies_name_what_is_told.Goals as goal

pub returns : goal.returns
returns c = bodies_told c.walk_is_plain.ensures.plain c.text_is_plain.ensures.plain c.held_are_nested.ensures c.trees_are_sound.ensures.parts c.trees_are_nested.ensures c.plain_instructions_name_what_is_told.ensures

use Rattle.walrus_body_laws.proofs.Meant.{bodies_meant}
use Rattle.walrus_body_laws.proofs.emission.bodies_are_meant.Goals as goal

pub returns : goal.returns
returns c = bodies_meant c.texts_are_renamed.ensures

use Rattle.walrus_body_laws.proofs.Named.{locals_meant}
use Rattle.walrus_body_laws.proofs.emission.locals_are_meant.Goals as goal

pub returns : goal.returns
returns c = locals_meant c.names_are_operators.ensures.locals c.texts_are_renamed.ensures

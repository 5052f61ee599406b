use Rattle.walrus_body_laws.proofs.Renamed.{texts_renamed}
use Rattle.walrus_body_laws.proofs.writing.texts_are_renamed.Goals as goal

pub returns : goal.returns
returns c = texts_renamed c.operators_are_sent.ensures

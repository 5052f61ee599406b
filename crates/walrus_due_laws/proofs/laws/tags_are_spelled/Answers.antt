use Rattle.walrus_due_laws.proofs.Tags.{tags_spelled}
use Rattle.walrus_due_laws.proofs.laws.tags_are_spelled.Goals as goal

pub returns : goal.returns
returns c = tags_spelled

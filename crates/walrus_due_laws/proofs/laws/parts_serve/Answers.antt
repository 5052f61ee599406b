use Rattle.walrus_due_laws.proofs.Listed.{parts_serve}
use Rattle.walrus_due_laws.proofs.laws.parts_serve.Goals as goal

pub returns : goal.returns
returns c = parts_serve

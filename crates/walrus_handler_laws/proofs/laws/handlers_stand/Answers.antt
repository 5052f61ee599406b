use Rattle.walrus_handler_laws.proofs.Standing.{handlers_stand}
use Rattle.walrus_handler_laws.proofs.laws.handlers_stand.Goals as goal

pub returns : goal.returns
returns c = handlers_stand

use Rattle.walrus_kept_types_laws.proofs.Handlers.{handlers_lacking}
use Rattle.walrus_kept_types_laws.proofs.laws.handlers_are_lacking.Goals as goal

pub returns : goal.returns
returns c = handlers_lacking

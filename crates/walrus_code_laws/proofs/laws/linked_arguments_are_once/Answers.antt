use Rattle.walrus_code_laws.proofs.Emissions.{arguments_once}
use Rattle.walrus_code_laws.proofs.laws.linked_arguments_are_once.Goals as goal

pub returns : goal.returns
returns c = arguments_once

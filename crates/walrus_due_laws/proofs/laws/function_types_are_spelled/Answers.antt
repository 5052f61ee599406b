use Rattle.walrus_due_laws.proofs.FunctionTypes.{function_types_spelled}
use Rattle.walrus_due_laws.proofs.laws.function_types_are_spelled.Goals as goal

pub returns : goal.returns
returns c = function_types_spelled

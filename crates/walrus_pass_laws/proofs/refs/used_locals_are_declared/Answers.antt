use Rattle.walrus_pass_laws.proofs.Locals.{locals_declared}
use Rattle.walrus_pass_laws.proofs.refs.used_locals_are_declared.Goals as goal

pub returns : goal.returns
returns c = locals_declared

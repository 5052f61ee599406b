use Rattle.walrus_pass_laws.proofs.Locals.{locals_walked}
use Rattle.walrus_pass_laws.proofs.refs.walks_name_used_locals.Goals as goal

pub returns : goal.returns
returns c = locals_walked c.walks_name_items.ensures

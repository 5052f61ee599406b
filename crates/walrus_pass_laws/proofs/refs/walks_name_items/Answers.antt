use Rattle.walrus_pass_laws.proofs.Walks.{walks_named}
use Rattle.walrus_pass_laws.proofs.refs.walks_name_items.Goals as goal

pub returns : goal.returns
returns c = walks_named c.bodies_name_what_is_told.ensures

use Rattle.walrus_pass_laws.proofs.Items.{items_meant}
use Rattle.walrus_pass_laws.proofs.refs.items_name_what_is_meant.Goals as goal

pub returns : goal.returns
returns c = items_meant c.expressions_tell_their_operators.ensures

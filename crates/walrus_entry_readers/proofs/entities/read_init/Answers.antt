use Rattle.walrus_entry_readers.specs.Known.{expr_known}
use Rattle.walrus_entry_readers.proofs.entities.read_init.Goals as goal

pub returns : goal.returns
returns c = expr_known _ _ _ _ _ _ _ c.known.ensures c.read_expr.ensures

use Rattle.std.proofs.lemmas.Result.{err_from_is_err_and}
use Rattle.walrus_type_readers.proofs.PlacedLemmas.{placed_ok, placed_err}
use Rattle.walrus_type_readers.proofs.groups.read_placed.Goals as goal

pub returns-in_err-group-clause-parses : goal.returns-in_err-group-clause-parses
returns-in_err-group-clause-parses c =
    let p = err_from_is_err_and c.from_residual.result c.from_residual.ensures.1 in
    placed_err _ _ _ _ _ _ p.1 p.2 c.in_err-group.ensures.places

pub returns-clause-parses : goal.returns-clause-parses
returns-clause-parses c = placed_ok _ _ _ _ c.in_ok-group.ensures.places

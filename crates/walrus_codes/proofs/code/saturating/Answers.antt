use Rattle.walrus_codes.proofs.code.saturating.Goals as goal

pub returns : goal.returns
returns c = c.behind.ensures

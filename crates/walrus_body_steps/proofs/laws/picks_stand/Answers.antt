use Rattle.walrus_body_steps.specs.Picks as picks
use Rattle.walrus_body_steps.proofs.laws.picks_stand.Goals as goal

pub returns : goal.returns
returns c = picks.picks_stand

use Rattle.walrus_body_operands.specs.Counted as lemmas
use Rattle.walrus_body_operands.proofs.Last.{frames_ask_last}
use Rattle.walrus_body_operands.proofs.laws.operators_are_listed.Goals as goal

pub returns-clause-read : goal.returns-clause-read
returns-clause-read c = lemmas.is_listed

pub returns-clause-labels : goal.returns-clause-labels
returns-clause-labels c = lemmas.counted

pub returns-clause-frames : goal.returns-clause-frames
returns-clause-frames c = frames_ask_last

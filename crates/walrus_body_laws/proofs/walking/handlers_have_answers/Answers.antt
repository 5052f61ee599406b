use Rattle.walrus_body_laws.proofs.Answers.{handlers_have}
use Rattle.walrus_body_laws.proofs.walking.handlers_have_answers.Goals as goal

pub returns : goal.returns
returns c = handlers_have c.tries_have_answers.ensures

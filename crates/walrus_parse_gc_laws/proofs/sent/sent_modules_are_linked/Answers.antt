use Rattle.walrus_parse_gc_laws.proofs.LinkedLemmas.{sent_linked}
use Rattle.walrus_parse_gc_laws.proofs.sent.sent_modules_are_linked.Goals as goal

pub returns : goal.returns
returns g c = sent_linked (goal.F-step g)

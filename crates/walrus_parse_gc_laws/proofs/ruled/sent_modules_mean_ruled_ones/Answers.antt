use Rattle.walrus_parse_gc_laws.proofs.RuledSentLemmas.{sent_ruled}
use Rattle.walrus_parse_gc_laws.proofs.ruled.sent_modules_mean_ruled_ones.Goals as goal

pub returns : goal.returns
returns g c = sent_ruled (goal.F-step g)

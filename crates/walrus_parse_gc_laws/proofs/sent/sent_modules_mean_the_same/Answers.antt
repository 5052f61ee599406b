use Rattle.walrus_parse_gc_laws.proofs.MeaningLemmas.{sent_meaning}
use Rattle.walrus_parse_gc_laws.proofs.sent.sent_modules_mean_the_same.Goals as goal

pub returns : goal.returns
returns g c = sent_meaning (goal.F-step g)

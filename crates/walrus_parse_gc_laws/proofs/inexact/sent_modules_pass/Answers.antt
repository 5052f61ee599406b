use Rattle.walrus_parse_gc_laws.proofs.InexactSentLemmas.{sent_pass}
use Rattle.walrus_parse_gc_laws.proofs.inexact.sent_modules_pass.Goals as goal

pub returns : goal.returns
returns g c = sent_pass (goal.F-step g) c.sent_modules_are_served.ensures c.read_modules_have_no_exact.ensures

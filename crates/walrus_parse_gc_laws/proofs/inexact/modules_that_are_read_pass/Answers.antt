use Rattle.walrus_parse_gc_laws.proofs.ReadLemmas.{read_pass}
use Rattle.walrus_parse_gc_laws.proofs.inexact.modules_that_are_read_pass.Goals as goal

pub returns : goal.returns
returns g c = read_pass c.modules_that_are_read_are_served.ensures c.read_modules_have_no_exact.ensures

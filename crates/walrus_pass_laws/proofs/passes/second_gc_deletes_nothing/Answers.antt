use Rattle.walrus_pass_laws.proofs.TwiceLemmas.{gc_twice}
use Rattle.walrus_pass_laws.proofs.passes.second_gc_deletes_nothing.Goals as goal

pub returns : goal.returns
returns c = gc_twice

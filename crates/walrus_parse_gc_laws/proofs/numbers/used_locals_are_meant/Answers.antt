use Rattle.walrus_parse_gc_laws.proofs.WrittenLemmas.{used_meant}
use Rattle.walrus_parse_gc_laws.proofs.numbers.used_locals_are_meant.Goals as goal

pub returns : goal.returns
returns c = used_meant c.locals_are_meant.ensures

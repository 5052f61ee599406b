use Rattle.walrus_parse_gc_laws.proofs.RuledSentLemmas.{handed_on}
use Rattle.walrus_parse_gc_laws.proofs.ruled.read_modules_are_handed_on.Goals as goal

pub returns : goal.returns
returns g c = handed_on (goal.F-step g) c.modules_that_are_read_mean_their_files.ensures c.modules_that_are_read_mean_ruled_ones.ensures

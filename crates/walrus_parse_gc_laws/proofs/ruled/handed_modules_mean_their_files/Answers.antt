use Rattle.walrus_parse_gc_laws.proofs.HandedLemmas.{handed_files}
use Rattle.walrus_parse_gc_laws.proofs.ruled.handed_modules_mean_their_files.Goals as goal

pub returns : goal.returns
returns g c = handed_files (goal.G-step g) g.F.FnOnce c.read_modules_are_handed_on.ensures

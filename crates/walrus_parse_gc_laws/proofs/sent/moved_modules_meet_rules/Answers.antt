use Rattle.walrus_parse_gc_laws.proofs.MovedRules.{moved_meet_rules}
use Rattle.walrus_parse_gc_laws.proofs.sent.moved_modules_meet_rules.Goals as goal

pub returns : goal.returns
returns c = moved_meet_rules

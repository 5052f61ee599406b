use Rattle.walrus_parse_gc_laws.proofs.ServedLemmas.{sent_are_served}
use Rattle.walrus_parse_gc_laws.proofs.served.sent_modules_are_served.Goals as goal

pub returns : goal.returns
returns g c = sent_are_served (goal.F-step g) c.types_of_read_modules_stay_in_groups.ensures c.modules_that_are_read_are_linked.ensures c.linked_are_served.ensures

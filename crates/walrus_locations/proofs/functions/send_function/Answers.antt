use Rattle.walrus_locations.proofs.SendLemmas.{local_sent}
use Rattle.walrus_locations.proofs.functions.send_function.Goals as goal

pub returns-in-Local : goal.returns-in-Local
returns-in-Local g c = local_sent (goal.F-step g) c.args.sends.now c.send_body.new.sends c.args.function.now c.in-Local.local c.builder_mut.result.now c.send_body.new.body c.send_body.result c.in-Local.is c.builder_mut.ensures.value c.send_body.ensures

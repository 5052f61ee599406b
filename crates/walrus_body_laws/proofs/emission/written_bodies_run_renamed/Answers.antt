use Rattle.walrus_body_laws.proofs.Runs.{written_run}
use Rattle.walrus_body_laws.proofs.emission.written_bodies_run_renamed.Goals as goal

pub returns : goal.returns
returns c = written_run c.read_bodies_are_written.ensures c.bodies_run_renamed.ensures.normal

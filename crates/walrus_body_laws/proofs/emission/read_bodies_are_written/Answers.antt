use Rattle.walrus_body_laws.proofs.Read.{read_written}
use Rattle.walrus_body_laws.proofs.emission.read_bodies_are_written.Goals as goal

pub returns : goal.returns
returns c = read_written c.bodies_are_meant.ensures c.bodies_mean_their_normal_form.ensures c.renamings_compose.ensures

use Rattle.walrus_functions_into.proofs.CodeLemmas.{read_bodies_are_paired}
use Rattle.walrus_functions_into.proofs.laws.read_bodies_are_paired.Goals as goal

pub returns : goal.returns
returns c = read_bodies_are_paired

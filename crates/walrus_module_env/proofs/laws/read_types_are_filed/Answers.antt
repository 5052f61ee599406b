use Rattle.walrus_module_env.proofs.FiledLemmas.{types_are_filed}
use Rattle.walrus_module_env.proofs.laws.read_types_are_filed.Goals as goal

pub returns : goal.returns
returns c = λ groups t below h. types_are_filed groups t below (c.new_types_stand.ensures groups below) h

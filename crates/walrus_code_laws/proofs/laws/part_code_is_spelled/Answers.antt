use Rattle.walrus_code_laws.proofs.Parts.{part_code_spelled}
use Rattle.walrus_code_laws.proofs.laws.part_code_is_spelled.Goals as goal

pub returns : goal.returns
returns c = part_code_spelled c.code_is_spelled.ensures

use Rattle.walrus_code_laws.proofs.Parts.{parts_written}
use Rattle.walrus_code_laws.proofs.laws.parts_are_written.Goals as goal

pub returns : goal.returns
returns c = parts_written c.code_is_spelled.ensures c.parts_are_spelled.ensures c.standard_is_around.ensures

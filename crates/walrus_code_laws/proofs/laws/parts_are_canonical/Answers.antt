use Rattle.walrus_code_laws.proofs.Parts.{parts_canonical}
use Rattle.walrus_code_laws.proofs.laws.parts_are_canonical.Goals as goal

pub returns : goal.returns
returns c = parts_canonical c.code_is_spelled.ensures c.parts_are_spelled.ensures c.standard_is_around.ensures c.files_are_spelled.ensures

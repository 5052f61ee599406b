use Rattle.walrus_body_laws.proofs.Forms.{control_told}
use Rattle.walrus_body_laws.proofs.writing.control_forms_are_told.Goals as goal

pub returns : goal.returns
returns c = control_told c.instructions_come_back.ensures

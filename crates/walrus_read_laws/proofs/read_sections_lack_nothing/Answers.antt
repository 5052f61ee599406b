use Rattle.walrus_read_laws.proofs.Nothing.{read_sections_lack_nothing}
use Rattle.walrus_read_laws.proofs.read_sections_lack_nothing.Goals as goal

pub returns : goal.returns
returns c = read_sections_lack_nothing

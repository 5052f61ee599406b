use Rattle.walrus_type_laws.proofs.Sound.{sound-law}
use Rattle.walrus_type_laws.proofs.parsed.edited_are_sound.Goals as goal

pub returns : goal.returns
returns c = sound-law

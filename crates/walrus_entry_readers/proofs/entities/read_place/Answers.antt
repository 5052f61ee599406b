use Rattle.walrus_entry_readers.specs.Known.{offset_known}
use Rattle.walrus_entry_readers.proofs.entities.read_place.Goals as goal

pub returns : goal.returns
returns c = offset_known _ _ _ _ _ _ _ _ c.known.ensures c.read_offset.ensures

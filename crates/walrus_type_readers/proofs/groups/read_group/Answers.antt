use Rattle.walrus_type_readers.proofs.PlacedLemmas.{group_told}
use Rattle.walrus_known_sections.specs.State.{state_of}
use Rattle.walrus_type_readers.proofs.groups.read_group.Goals as goal

pub returns : goal.returns
returns c =
    group_told c.args.reader.now.window.features (state_of c.args.sections.now) c.len.result c.len.ensures c.args.reader.now _ c.in_ok-group.group
    c.in_ok-group.ensures.parses _ c.in_ok-group.ensures.within c.group_record.ensures

use Rattle.std.proofs.Common.{◌∙◌, sym}
use Rattle.walrus_type_index.specs.walrus_items.Items.{kind_of}
use Rattle.walrus_type_arenas.proofs.HighestLemmas.{looked-up}
use Rattle.walrus_type_arenas.proofs.index.look_up_hashed.Goals as goal

pub returns : goal.returns
returns c =
    looked-up c.args.types.now.slots c.args.index.now.ids (kind_of c.args.ty.now) c.args.next c.latest_hashed.result c.requires.held.ordered c.requires.next (sym c.names.ensures ∙ c.if-names.false) c.latest_hashed.ensures

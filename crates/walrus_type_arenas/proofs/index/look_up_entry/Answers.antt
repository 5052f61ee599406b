use Rattle.std.proofs.Common.{◌∙◌, sym}
use Rattle.walrus_type_index.specs.walrus_items.walrus_forms.Kinds.{entry_kind}
use Rattle.walrus_type_arenas.proofs.HighestLemmas.{looked-up}
use Rattle.walrus_type_arenas.proofs.index.look_up_entry.Goals as goal

pub returns : goal.returns
returns c =
    looked-up c.args.types.now.slots c.args.index.now.ids (entry_kind c.args.results.now) c.args.next c.latest.result c.requires.held.ordered c.requires.next
    (sym c.entry_names.ensures ∙ c.if-entry_names.false) c.latest.ensures

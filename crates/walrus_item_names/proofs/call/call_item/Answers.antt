use Rattle.std.proofs.Common.{◌∙◌, string_bytes}
use Rattle.walrus_item_names.proofs.Slots.{item_called}
use Rattle.walrus_item_names.proofs.call.call_item.Goals as goal

pub returns-then-contains : goal.returns-then-contains
returns-then-contains g c =
    item_called g.T.Named.called g.T.Named.bare c.args.id c.from_index-then-contains.result (string_bytes c.args.name) c.args.items.now c.get_mut.result.now c.set_name.new.self
    (c.from_index-then-contains.ensures ∙ c.index-at.ensures) c.get_mut.ensures.value c.set_name.ensures.called c.set_name.ensures.bare

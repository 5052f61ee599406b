use Rattle.std.proofs.Common.{◌∙◌, ℕ, List, map, ap}
use Rattle.walrus_type_arenas.specs.walrus_type_index.walrus_items.declared.subtype.Type.{«Type» as TypeItem}
use Rattle.walrus_type_arenas.specs.walrus_type_index.walrus_items.Items.{Item, item_of}
use Rattle.walrus_type_arenas.specs.Table.{Table, entries}
use Rattle.walrus_type_arenas.proofs.TableLemmas.{items-seen}
use Rattle.walrus_types.proofs.table.ModuleTypes.iter.Goals as goal

pub returns : goal.returns
returns c =
    c.new.ensures
    ∙ ap (λ (es : List (ℕ × TypeItem)). map (λ (e : ℕ × TypeItem). item_of e.1) es) c.iter.ensures
    ∙ items-seen item_of 0 c.self.inside.types.slots
    ∙ ap (λ (t : Table). map (λ (e : ℕ × Item). e.1) (entries t)) c.self.view_is

use Rattle.std.proofs.Common.{◌∙◌, ℕ, List, find, ap}
use Rattle.walrus_type_arenas.specs.walrus_type_index.walrus_items.Items.{Item, has_name}
use Rattle.walrus_type_arenas.proofs.TableLemmas.{entries-seen}
use Rattle.walrus_types.proofs.table.ModuleTypes.by_name.Goals as goal

pub loop-id-init : goal.loop-id-init
loop-id-init c = record {
  can = tt;
  ends = tt;
  first = ap (λ (es : List (ℕ × Item)). find (λ (e : ℕ × Item). has_name c.args.name.now e.1) es)
      (entries-seen c.self.inside.types.slots c.args.self.now c.into_iter-id-iterator.result c.self.inside.groups.slots
      (c.into_iter-id-iterator.ensures.into_iter_gives ∙ c.iter-id-items.ensures) c.self.view_is);
}

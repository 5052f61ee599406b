use Rattle.std.proofs.Common.{◌∙◌, Bool, ◌++◌, ℕ, List, Bor, map, filter, ap}
use Rattle.std.specs.List.{list_any}
use Rattle.walrus_type_index.specs.walrus_items.declared.subtype.RecGroup.{RecGroup}
use Rattle.walrus_type_index.specs.walrus_items.Items.{Group, group_of}
use Rattle.walrus_type_arenas.specs.Table.{table_of}
use Rattle.walrus_type_arenas.specs.Emission.{is_written}
use Rattle.walrus_type_arenas.proofs.TableLemmas.{items-seen}
use Rattle.walrus_type_arenas.proofs.emit.groups_of.Goals as goal

pub loop-group-init : goal.loop-group-init
loop-group-init c =
    let passes : Group → Bool = λ (group : Group). list_any (is_written (table_of c.args.types.now.slots c.args.groups.now.slots)) group.types in
    let rest = λ (es : List (ℕ × RecGroup)). filter passes (map (λ (e : ℕ × RecGroup). group_of e.1) es) in
    record {
      can = tt;
      ends = tt;
      whole = ap (λ (found : List (Bor RecGroup)). map (λ (g : Bor RecGroup). group_of g.now) found ++ rest c.into_iter-group-iterator.result) c.new-found.ensures.items
          ∙ ap rest (c.into_iter-group-iterator.ensures.into_iter_gives ∙ c.iter-group-items.ensures)
          ∙ ap (filter passes) (items-seen group_of 0 c.args.groups.now.slots);
    }

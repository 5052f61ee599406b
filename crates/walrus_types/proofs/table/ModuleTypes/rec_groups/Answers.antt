use Rattle.std.proofs.Common.{◌∙◌, ℕ, List, map, ap}
use Rattle.walrus_type_arenas.specs.walrus_type_index.walrus_items.walrus_arena.Arena.{entries_from}
use Rattle.walrus_type_arenas.specs.walrus_type_index.walrus_items.declared.subtype.RecGroup.{RecGroup}
use Rattle.walrus_type_arenas.specs.walrus_type_index.walrus_items.Items.{Group, group_of}
use Rattle.walrus_type_arenas.specs.Table.{Table}
use Rattle.walrus_type_arenas.proofs.LawLemmas.{grouped-law}
use Rattle.walrus_type_arenas.proofs.TableLemmas.{items-seen}
use Rattle.walrus_types.proofs.table.ModuleTypes.rec_groups.Goals as goal

pub returns-clause-grouped : goal.returns-clause-grouped
returns-clause-grouped c =
    grouped-law c.self.inside.types.slots c.self.inside.groups.slots c.self.inside.homes.items c.args.self.now c.self.invariant.grouped c.self.view_is

pub returns-clause-groups : goal.returns-clause-groups
returns-clause-groups c =
    c.new.ensures
    ∙ ap (λ (es : List (ℕ × RecGroup)). map (λ (e : ℕ × RecGroup). group_of e.1) es) c.iter.ensures
    ∙ items-seen group_of 0 c.self.inside.groups.slots
    ∙ ap (λ (t : Table). map (λ (e : ℕ × Group). e.1) (entries_from 0 t.groups)) c.self.view_is

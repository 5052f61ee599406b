use Rattle.std.proofs.Common.{◌∙◌, ap}
use Rattle.walrus_type_arenas.specs.walrus_type_index.walrus_items.Items.{Group, group_of}
use Rattle.walrus_type_arenas.specs.Table.{Table, is_named_in}
use Rattle.walrus_type_arenas.proofs.DeleteLemmas.{one-group, member-live}
use Rattle.walrus_types.proofs.table.ModuleTypes.is_named_by_sibling.Goals as goal

pub returns-in-Some : goal.returns-in-Some
returns-in-Some c = λ place group at in_it.
    let same = one-group c.self.inside.types.slots c.self.inside.groups.slots c.self.inside.homes.items c.self.invariant.grouped
    c.args.self.now c.args.id place (group_of c.in-Some.group.now) group c.self.view_is c.in-Some.ensures at in_it in
    c.members_name.ensures
    ∙ ap (λ (t : Table). is_named_in t c.args.id (group_of c.in-Some.group.now)) c.self.view_is
    ∙ ap (λ (g : Group). is_named_in c.args.self.now c.args.id g) same

pub returns-in-None : goal.returns-in-None
returns-in-None c = λ place group at in_it.
    let h = member-live c.self.inside.types.slots c.self.inside.groups.slots c.self.inside.homes.items c.self.invariant.grouped
    c.args.self.now c.args.id place group c.self.view_is at in_it in
    absurd (cc (h.1, c.in-None.ensures))

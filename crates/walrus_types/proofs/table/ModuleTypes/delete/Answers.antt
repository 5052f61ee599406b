use Rattle.std.proofs.Common.{◌∙◌, ap, sym, slice_index, slice_index_or, None}
use Rattle.walrus_type_arenas.proofs.TableLemmas.{held}
use Rattle.walrus_type_arenas.proofs.IndexLemmas.{lives-seen, held-dead}
use Rattle.walrus_type_arenas.proofs.DeleteLemmas.{live-inside, home-live, deletes, deletes-grouped}
use Rattle.walrus_types.proofs.table.ModuleTypes.delete.Goals as goal

pub leave_group-requires : goal.leave_group-requires
leave_group-requires c = home-live c.self.inside.types.slots c.self.inside.groups.slots c.self.inside.homes.items c.self.invariant.grouped c.args.id c.home_of-home.result
    (sym (c.home_of-home.ensures ∙ ap (λ xs. slice_index xs c.args.id) c.as_slice.ensures.value)) (live-inside c.self.inside.types.slots c.self.inside.groups.slots c.args.self.now c.args.id c.self.view_is c.requires)

pub invariant_of-self : goal.invariant_of-self
invariant_of-self c =
    let slots = c.self.inside.types.slots in
    let there = held (slice_index_or slots c.args.id None) (live-inside slots c.self.inside.groups.slots c.args.self.now c.args.id c.self.view_is c.requires) in
    record {
      held = rw c.delete.ensures.deleted (held-dead slots c.lend.new.index c.args.id there.0 there.1 c.lend.ensures.index);
      grouped = rw c.delete.ensures.deleted (deletes-grouped slots c.self.inside.groups.slots c.self.inside.homes.items c.self.invariant.grouped c.leave_group.new.groups.slots c.args.id c.home_of-home.result
          (sym (c.home_of-home.ensures ∙ ap (λ xs. slice_index xs c.args.id) c.as_slice.ensures.value)) (live-inside slots c.self.inside.groups.slots c.args.self.now c.args.id c.self.view_is c.requires) c.leave_group.ensures);
    }

pub returns : goal.returns
returns c = rw c.delete.ensures.deleted (deletes c.self.inside.types.slots c.self.inside.groups.slots c.self.inside.homes.items c.self.invariant.grouped c.leave_group.new.groups.slots c.args.id c.home_of-home.result c.args.self.now c.self.view_is
    (sym (c.home_of-home.ensures ∙ ap (λ xs. slice_index xs c.args.id) c.as_slice.ensures.value)) c.leave_group.ensures)

pub lend-requires-clause-lives : goal.lend-requires-clause-lives
lend-requires-clause-lives c =
    lives-seen c.self.inside.types.slots c.args.id (live-inside c.self.inside.types.slots c.self.inside.groups.slots c.args.self.now c.args.id c.self.view_is c.requires)

use Rattle.std.proofs.Common.{◌∙◌, ap, None, Some}
use Rattle.std.proofs.lemmas.Bool.{both_ways}
use Rattle.std.proofs.lemmas.List.{set-set}
use Rattle.walrus_type_arenas.specs.Table.{nonempty_group}
use Rattle.walrus_type_arenas.proofs.DeleteLemmas.{nonempty-some}
use Rattle.walrus_type_arenas.proofs.SweepLemmas.{left-unmarked, swept-at, swept-dead}
use Rattle.walrus_type_arenas.proofs.delete.sweep_at.Goals as goal

pub returns-then-not-contains : goal.returns-then-not-contains
returns-then-not-contains c = swept-dead c.args.marks.now c.args.groups.now.slots c.args.place c.contains.result c.contains.ensures.1 c.if-not-contains.true

pub returns-then-is_empty : goal.returns-then-is_empty
returns-then-is_empty c =
    let left = left-unmarked c.args.marks.now c.index_mut-group.result.now c.keep_unmarked.new.group _ c.index_mut-group.ensures.value c.keep_unmarked.ensures.members c.keep_unmarked.ensures.explicit
    ∙ ap (nonempty_group c.keep_unmarked.new.group.explicit) (c.is_empty.ensures.0 c.if-is_empty.true) in
    rw (c.delete.ensures.deleted, set-set) (swept-at c.args.groups.now.slots c.args.place None _ left)

pub returns-else-is_empty : goal.returns-else-is_empty
returns-else-is_empty c =
    let left = left-unmarked c.args.marks.now c.index_mut-group.result.now c.keep_unmarked.new.group _ c.index_mut-group.ensures.value c.keep_unmarked.ensures.members c.keep_unmarked.ensures.explicit
    ∙ nonempty-some c.keep_unmarked.new.group.explicit c.keep_unmarked.new.group.types.items (λ e. both_ways c.is_empty.result c.if-is_empty.false (c.is_empty.ensures.1 e)) in
    swept-at c.args.groups.now.slots c.args.place (Some c.keep_unmarked.new.group) _ left

use Rattle.std.proofs.Common.{◌∙◌, ap, refl}
use Rattle.std.proofs.lemmas.Bool.{both_ways}
use Rattle.std.proofs.lemmas.List.{map-set, set-set}
use Rattle.walrus_type_arenas.specs.Table.{nonempty_group}
use Rattle.walrus_type_arenas.proofs.DeleteLemmas.{nonempty-some, left-of}
use Rattle.walrus_type_arenas.proofs.delete.leave_group.Goals as goal

pub returns-then-is_empty : goal.returns-then-is_empty
returns-then-is_empty c = λ group seen.
    let left = left-of c.args.id c.index_mut-group.result.now c.remove.new.self group _ c.index_mut-group.ensures.value seen c.remove.ensures.members c.remove.ensures.explicit
    ∙ ap (nonempty_group c.remove.new.self.explicit) (c.is_empty.ensures.0 c.if-is_empty.true) in
    rw (c.delete.ensures.deleted, set-set, map-set, left) refl

pub returns-else-is_empty : goal.returns-else-is_empty
returns-else-is_empty c = λ group seen.
    let left = left-of c.args.id c.index_mut-group.result.now c.remove.new.self group _ c.index_mut-group.ensures.value seen c.remove.ensures.members c.remove.ensures.explicit
    ∙ nonempty-some c.remove.new.self.explicit c.remove.new.self.types.items (λ e. both_ways c.is_empty.result c.if-is_empty.false (c.is_empty.ensures.1 e)) in
    rw (map-set, left) refl

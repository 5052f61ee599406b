use Rattle.std.proofs.Common.{◌∙◌, sym, ap, None, slice_index_or}
use Rattle.walrus_arena.proofs.SetLemmas.{IsIndex-remove, updated_where_equal}
use Rattle.walrus_arena.proofs.set.ArenaSet.remove.Goals as goal

pub invariant_of-self : goal.invariant_of-self
invariant_of-self g c =
    rw (c.delete.ensures.deleted, c.from_index-in-Some.ensures)
    (IsIndex-remove g.met.T.Eq.laws c.self.invariant c.in-Some.value.now c.index-index.result
    (ap (λ id. slice_index_or c.self.inside.arena.slots id None) (sym c.from_index.ensures) ∙ sym c.in-Some.ensures)
    (updated_where_equal _ _ _ g.met.T.Ord.matches_eq c.in-Some.value.now None c.remove.ensures.updates.0))

use Rattle.std.proofs.Common.{◌∙◌, refl, sym, ap, length}
use Rattle.walrus_arena.proofs.SetLemmas.{IsIndex-found, IsIndex-absent, IsIndex-push, updated_where_equal}
use Rattle.walrus_arena.proofs.set.ArenaSet.insert.Goals as goal

pub returns-in-Some-clause-inserted : goal.returns-in-Some-clause-inserted
returns-in-Some-clause-inserted g c =
    let found = IsIndex-found g.met.T.Eq.laws (record { slots = c.self.inside.arena.slots; room = 0 }) c.self.invariant c.args.value c.in-Some.found.now (sym c.in-Some.ensures.value) in
    rw (← c.self.view_is, found) (c.from_index.ensures, refl)

pub invariant_of-self-2 : goal.invariant_of-self-2
invariant_of-self-2 g c =
    rw (c.alloc_reserved.ensures.added, c.reserve.ensures.items)
    (IsIndex-push g.met.T.Eq.laws c.self.invariant c.in_ok-key.key c.args.value c.number.result
    (c.requires c.in_ok-key.key c.in_ok-key.ensures.cases)
    (sym c.in_default.ensures.value)
    (sym (ap length c.reserve.ensures.items) ∙ sym (c.number.ensures ∙ c.next_id.ensures))
    (updated_where_equal _ _ _ g.met.T.Ord.matches_eq c.in_ok-key.key _ c.in_ok-insert.ensures.updates.0))

pub returns-clause-inserted : goal.returns-clause-inserted
returns-clause-inserted g c =
    let absent = IsIndex-absent (record { slots = c.self.inside.arena.slots; room = 0 }) c.self.invariant c.args.value (sym c.in_default.ensures.value) in
    rw (← c.self.view_is, absent, c.alloc_reserved.ensures.added, c.reserve.ensures.items) (c.alloc_reserved.ensures.id ∙ ap length c.reserve.ensures.items, refl)

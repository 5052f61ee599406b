use Rattle.std.proofs.Common.{◌∙◌, ℕ, Some, None, IsSome, slice_index_or, sym, ap, arith}
use Rattle.std.proofs.lemmas.Option.{slice_get_within}
use Rattle.walrus_arena.specs.Dense.{slots_of}
use Rattle.walrus_arena.proofs.DenseLemmas.{placing, last-pair, pair-there, slot-here, taken-dense, taken-slots}
use Rattle.walrus_arena.proofs.arena.TombstoneArena.take.Goals as goal

pub index_mut-requires : goal.index_mut-requires
index_mut-requires g c =
    let live = c.self.inside.live in
    let index = c.self.inside.index in
    let there : IsSome (slice_index_or (slots_of live.items index.items) c.index-id.result None) = rw c.index-id.ensures (rw (← c.self.view_is) at c.requires) in
    let here = placing live.items index.items c.index-id.result c.index-place.result.now c.self.invariant there c.index-place.ensures in
    let end = last-pair live.items c.last_id-moved.result (c.index-id.result, here.item) (omega (arith, here.within)) (rw c.as_slice.ensures.value at c.last_id-moved.ensures) in
    let given = slice_get_within index.items _ _ (c.self.invariant.placed _ _ end.item end.at) in
    omega (arith, given, index.ok.0)

pub swap_remove-item-requires : goal.swap_remove-item-requires
swap_remove-item-requires g c =
    let live = c.self.inside.live in
    let index = c.self.inside.index in
    let there : IsSome (slice_index_or (slots_of live.items index.items) c.index-id.result None) = rw c.index-id.ensures (rw (← c.self.view_is) at c.requires) in
    let here = placing live.items index.items c.index-id.result c.index-place.result.now c.self.invariant there c.index-place.ensures in
    omega (arith, here.within, live.ok.0)

pub invariant_of-self : goal.invariant_of-self
invariant_of-self g c =
    let live = c.self.inside.live in
    let index = c.self.inside.index in
    let there : IsSome (slice_index_or (slots_of live.items index.items) c.index-id.result None) = rw c.index-id.ensures (rw (← c.self.view_is) at c.requires) in
    let here = placing live.items index.items c.index-id.result c.index-place.result.now c.self.invariant there c.index-place.ensures in
    let end = last-pair live.items c.last_id-moved.result (c.index-id.result, here.item) (omega (arith, here.within)) (rw c.as_slice.ensures.value at c.last_id-moved.ensures) in
    rw c.swap_remove-item.ensures.items
    (taken-dense live.items index.items c.self.invariant c.index-place.result.now c.index-id.result c.last_id-moved.result here.item end.item here.at end.at c.swap_remove-item.result)

pub returns-clause-item : goal.returns-clause-item
returns-clause-item g c =
    let live = c.self.inside.live in
    let index = c.self.inside.index in
    let there : IsSome (slice_index_or (slots_of live.items index.items) c.index-id.result None) = rw c.index-id.ensures (rw (← c.self.view_is) at c.requires) in
    let here = placing live.items index.items c.index-id.result c.index-place.result.now c.self.invariant there c.index-place.ensures in
    let pair = pair-there live.items c.index-place.result.now (c.index-id.result, here.item) c.swap_remove-item.result here.at c.swap_remove-item.ensures.value in
    rw (← c.self.view_is, ← c.index-id.ensures)
    (slot-here live.items index.items c.self.invariant c.index-place.result.now c.index-id.result here.item here.at ∙ ap (λ (p : ℕ × g.row.T.Denot). Some p.1) (sym pair))

pub returns-clause-deleted : goal.returns-clause-deleted
returns-clause-deleted g c =
    let live = c.self.inside.live in
    let index = c.self.inside.index in
    let there : IsSome (slice_index_or (slots_of live.items index.items) c.index-id.result None) = rw c.index-id.ensures (rw (← c.self.view_is) at c.requires) in
    let here = placing live.items index.items c.index-id.result c.index-place.result.now c.self.invariant there c.index-place.ensures in
    let end = last-pair live.items c.last_id-moved.result (c.index-id.result, here.item) (omega (arith, here.within)) (rw c.as_slice.ensures.value at c.last_id-moved.ensures) in
    rw (c.swap_remove-item.ensures.items, ← c.self.view_is, ← c.index-id.ensures)
    (taken-slots live.items index.items c.self.invariant c.index-place.result.now c.index-id.result c.last_id-moved.result here.item end.item here.at end.at c.swap_remove-item.result)

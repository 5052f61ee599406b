use Rattle.std.proofs.Common.{◌∙◌, ◌-◌, ◌^◌, min, ℕ, List, Option, Some, None, IsSome, slice_index_or, slice_set, vec_len, vec_capacity, refl, sym, ap, arith}
use Rattle.walrus_arena.specs.Arena.{Arena}
use Rattle.walrus_arena.specs.Dense.{slots_of}
use Rattle.walrus_arena.proofs.DenseLemmas.{placing, pair-there, slot-here, written-dense, written-slots}
use Rattle.walrus_arena.proofs.arena.TombstoneArena.item_mut.Goals as goal

pub index_mut-pair-requires : goal.index_mut-pair-requires
index_mut-pair-requires g c =
    let live = c.self.inside.live in
    let index = c.self.inside.index in
    let there : IsSome (slice_index_or (slots_of live.items index.items) c.args.index None) = rw (← c.self.view_is) at c.requires in
    let here = placing live.items index.items c.args.index c.index.result.now c.self.invariant there c.index.ensures in
    omega (arith, here.within, live.ok.0)

pub invariant_of-self-lent : goal.invariant_of-self-lent
invariant_of-self-lent g c = λ w.
    let live = c.self.inside.live in
    let index = c.self.inside.index in
    let there : IsSome (slice_index_or (slots_of live.items index.items) c.args.index None) = rw (← c.self.view_is) at c.requires in
    let here = placing live.items index.items c.args.index c.index.result.now c.self.invariant there c.index.ensures in
    let pair = pair-there live.items c.index.result.now (c.args.index, here.item) c.index_mut-pair.result.now here.at c.index_mut-pair.ensures.value in
    rw (ap (λ (p : ℕ × g.row.T.Denot). p.0) pair)
    (written-dense live.items index.items c.self.invariant c.index.result.now c.args.index here.item w here.at)

pub returns : goal.returns
returns g c =
    let live = c.self.inside.live in
    let index = c.self.inside.index in
    let place = c.index.result.now in
    let there : IsSome (slice_index_or (slots_of live.items index.items) c.args.index None) = rw (← c.self.view_is) at c.requires in
    let here = placing live.items index.items c.args.index place c.self.invariant there c.index.ensures in
    let pair = pair-there live.items place (c.args.index, here.item) c.index_mut-pair.result.now here.at c.index_mut-pair.ensures.value in
    rw (← c.self.view_is) (
      (
        refl,
        λ w. ap (λ (slots : List (Option g.row.T.Denot)). let a : Arena g.row.T.Denot = record { slots = slots; room = min (min (vec_capacity index) (2 ^ 32 - 1) - vec_len index) (vec_capacity live - vec_len live) } in a)
            (ap (λ (p : ℕ × g.row.T.Denot). slots_of (slice_set live.items place (p.0, w)) index.items) pair
            ∙ written-slots live.items index.items c.self.invariant place c.args.index here.item w here.at),
      ),
      record {
        writes_back = tt;
        value = slot-here live.items index.items c.self.invariant place c.args.index here.item here.at ∙ ap (λ (p : ℕ × g.row.T.Denot). Some p.1) (sym pair);
      },
    )

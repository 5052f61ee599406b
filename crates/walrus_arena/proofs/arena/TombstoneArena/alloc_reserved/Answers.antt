use Rattle.std.proofs.Common.{◌<◌, ◌∙◌, length, arith}
use Rattle.walrus_arena.specs.Dense.{nowhere}
use Rattle.walrus_arena.proofs.DenseLemmas.{pushed-dense, pushed-slots}
use Rattle.walrus_arena.proofs.arena.TombstoneArena.alloc_reserved.Goals as goal

pub invariant_of-self : goal.invariant_of-self
invariant_of-self g c =
    let live = c.self.inside.live in
    let index = c.self.inside.index in
    let room = rw (← c.self.view_is) at c.requires in
    let few : length index.items < nowhere = omega (arith, room, index.ok.0) in
    rw (c.push_reserved.ensures.items, c.push_reserved-2.ensures.items, c.len.ensures ∙ live.ok.0, c.len-id.ensures ∙ index.ok.0)
    (pushed-dense live.items index.items c.self.invariant c.args.item few)

pub returns-clause-added : goal.returns-clause-added
returns-clause-added g c =
    let live = c.self.inside.live in
    let index = c.self.inside.index in
    let room = rw (← c.self.view_is) at c.requires in
    let few : length index.items < nowhere = omega (arith, room, index.ok.0) in
    rw (c.push_reserved.ensures.items, c.push_reserved-2.ensures.items, c.len.ensures ∙ live.ok.0, c.len-id.ensures ∙ index.ok.0, ← c.self.view_is)
    (pushed-slots live.items index.items c.self.invariant c.args.item few)

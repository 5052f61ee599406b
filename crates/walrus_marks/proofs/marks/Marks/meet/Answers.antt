use Rattle.std.proofs.Common.{◌<◌, true, arith, refl, ap, ◌∙◌, length, length-append, [], ◌∷◌}
use Rattle.std.proofs.Math.ListN.{length-set}
use Rattle.std.specs.Vec.{with_item}
use Rattle.walrus_marks.proofs.FlagLemmas.{left_after}
use Rattle.walrus_marks.proofs.marks.Marks.meet.Goals as goal

pub push_reserved-requires : goal.push_reserved-requires
push_reserved-requires c =
    let below : c.space_number-space.result < length c.self.inside.flags.items = omega (arith, c.space_number-space.ensures.below, c.self.invariant.spaces) in
    let left = left_after (λ v. v.items) c.self.inside.flags.items c.space_number-space.result c.args.item.id c.deref.result.now c.index-else-id-len.result.now c.index_mut.result.now (with_item c.index_mut.result.now c.args.item.id true) c.is_new.result
    below c.index-else-id-len.ensures c.deref.ensures.value c.index_mut.ensures.value c.is_new.ensures c.if-is_new.true refl in
    omega (arith, left, c.self.invariant.room, c.self.inside.work.ok.0)

pub invariant_of-self-then-is_new : goal.invariant_of-self-then-is_new
invariant_of-self-then-is_new c =
    let below : c.space_number-space.result < length c.self.inside.flags.items = omega (arith, c.space_number-space.ensures.below, c.self.invariant.spaces) in
    let left = left_after (λ v. v.items) c.self.inside.flags.items c.space_number-space.result c.args.item.id c.deref.result.now c.index-else-id-len.result.now c.index_mut.result.now (with_item c.index_mut.result.now c.args.item.id true) c.is_new.result
    below c.index-else-id-len.ensures c.deref.ensures.value c.index_mut.ensures.value c.is_new.ensures c.if-is_new.true refl in
    record {
      spaces = length-set c.self.inside.flags.items c.space_number-space.result (with_item c.index_mut.result.now c.args.item.id true) ∙ c.self.invariant.spaces;
      room = omega (arith, left, c.self.invariant.room, ap length c.push_reserved.ensures.items, length-append c.self.inside.work.items (c.args.item ∷ []), c.push_reserved.ensures.capacity);
    }

use Rattle.std.proofs.Common.{◌<◌, List, None, length, sym, subst, refl, arith}
use Rattle.walrus_type_index.specs.Ordered.{IsOrdered}
use Rattle.walrus_type_index.specs.Places.{Hashed, kinds_in}
use Rattle.walrus_type_index.proofs.OrderedLemmas.{ordered-settled, lent-out, lives-below}
use Rattle.walrus_type_index.proofs.lent.enter_hashed.Goals as goal

pub put-requires-clause-sorted : goal.put-requires-clause-sorted
put-requires-clause-sorted c = c.requires.held.ordered.sorted.sorted

pub put-requires-clause-room : goal.put-requires-clause-room
put-requires-clause-room c =
    let ks = kinds_in c.args.types.now.slots in
    let less : c.args.hashed.id < length ks = lives-below c.args.hashed.id ks (c.requires.held.ordered.lent_lives c.args.hashed.id refl) in
    omega (arith, less, c.requires.held.room)

pub put-requires-clause-out : goal.put-requires-clause-out
put-requires-clause-out c = lent-out c.args.hashed.id c.args.index.now.ids (kinds_in c.args.types.now.slots) c.requires.held.ordered

pub returns-clause-held : goal.returns-clause-held
returns-clause-held c =
    let ks = kinds_in c.args.types.now.slots in
    record {
      ordered = subst (λ (xs : List Hashed). IsOrdered None xs ks) (sym c.put.ensures.ids) (ordered-settled c.args.hashed.id c.args.index.now.ids ks c.requires.held.ordered);
      room = omega (arith, c.put.ensures.room, c.requires.held.room);
    }

use Rattle.std.proofs.Common.{◌∙◌, List, Some, sym, subst, arith}
use Rattle.walrus_type_index.specs.Ordered.{IsOrdered}
use Rattle.walrus_type_index.specs.Places.{Hashed, kinds_in}
use Rattle.walrus_type_index.proofs.OrderedLemmas.{live-found, ordered-taken}
use Rattle.walrus_type_index.proofs.lent.lend.Goals as goal

pub returns-clause-lent : goal.returns-clause-lent
returns-clause-lent c =
    c.take.ensures.taken ∙ live-found c.args.id c.settle.new.index.ids (kinds_in c.args.types.now.slots) c.settle.ensures.index.ordered c.requires.lives

pub returns-clause-index : goal.returns-clause-index
returns-clause-index c =
    let ks = kinds_in c.args.types.now.slots in
    record {
      ordered = subst (λ (xs : List Hashed). IsOrdered (Some c.args.id) xs ks) (sym c.take.ensures.rest)
          (ordered-taken c.args.id c.settle.new.index.ids ks c.settle.ensures.index.ordered c.requires.lives);
      room = omega (arith, c.take.ensures.room, c.settle.ensures.index.room);
    }

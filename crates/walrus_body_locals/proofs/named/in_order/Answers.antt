use Rattle.walrus_body_locals.proofs.Choosing.{ordered_are}
use Rattle.walrus_body_locals.proofs.named.in_order.Goals as goal

pub returns : goal.returns
returns c = λ count below.
    ordered_are c.args.numbers.items c.sort.new.self.items c.dedup.new.self.items c.sort.ensures.permutation c.in_ok-sort.ensures.sorted c.dedup.ensures.filtered count below

use Rattle.std.proofs.Common.{◌∙◌, sym, ap, subst, map}
use Rattle.std.proofs.lemmas.Result.{IfOk-weaker}
use Rattle.walrus_type_order.specs.Order.{IsEmissionOrder}
use Rattle.walrus_type_order.proofs.OrderLemmas.{sorted_places}
use Rattle.walrus_type_order.proofs.order.emission_order.Goals as goal

pub returns : goal.returns
returns g c =
    let order = sorted_places g.T.Ord.cmp g.met.T.Ord.total c.args.entries.now c.in_ok-places.places.items c.sort.new.self.items c.in_ok-places.ensures.positions c.in_ok-places.ensures.places c.in_ok-sort.ensures.permutation c.in_ok-sort.ensures.sorted in
    IfOk-weaker c.positions_of.result _ _ (λ ns is. subst (IsEmissionOrder g.T.Ord.cmp c.args.entries.now) (sym (is ∙ ap (map (λ p. p.position)) c.as_slice.ensures.value)) order) c.positions_of.ensures

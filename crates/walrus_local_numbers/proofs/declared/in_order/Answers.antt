use Rattle.std.proofs.Common.{◌∙◌, Ordering, ap}
use Rattle.std.specs.Prelude.{◌&&◌}
use Rattle.std.specs.Ordering.{ordering_then}
use Rattle.std.specs.Cmp.{both_tied, unsigned_ties}
use Rattle.walrus_arena.specs.contracts.id.LocalSpace.{the_row}
use Rattle.walrus_arena.specs.contracts.id.IdOrd.TheImpl as id_ord
use Rattle.walrus_arena.specs.contracts.id.IdPartialEq.TheImpl as id_eq
use Rattle.walrus_forms.specs.contracts.value.ValTypePartialEq.TheImpl.{ghosts as value_eq}
use Rattle.walrus_forms.specs.contracts.value.ValTypeOrd.TheImpl.{ghosts as value_ord}
use Rattle.walrus_forms.specs.contracts.value.ValTypeOrd.TheImpl.Laws as value_laws
use Rattle.walrus_forms.specs.ValueOrder.{value_cmp}
use Rattle.walrus_forms.proofs.PlaceLemmas.{value-places}
use Rattle.std.specs.Ordering.{is_eq, nat_cmp}
use Rattle.walrus_local_numbers.proofs.Orders.{is_keys}
use Rattle.walrus_local_numbers.proofs.declared.in_order.Goals as goal

pub returns : goal.returns
returns c =
    let id_eq_at = (id_eq.eq-value the_row).it in
    let id_cmp_at = (id_ord.cmp-value the_row).it in
    is_keys (λ x y. value_eq.eq x.0 y.0 && id_eq_at x.1 y.1) (λ x y. ordering_then (value_ord.cmp x.0 y.0) (id_cmp_at x.1 y.1))
    (λ x y. both_tied (value_eq.eq x.0 y.0) (id_eq_at x.1 y.1) (value_cmp x.0 y.0) (nat_cmp x.1 y.1)
    (value_laws.matches_eq-law x.0 y.0 ∙ ap is_eq (value-places x.0 y.0)) (c.ids_go_by_number.ensures.equal x.1 y.1 ∙ unsigned_ties x.1 y.1))
    (λ x y. ap (λ (o : Ordering). ordering_then o (id_cmp_at x.1 y.1)) (value-places x.0 y.0) ∙ ap (λ (o : Ordering). ordering_then (value_cmp x.0 y.0) o) (c.ids_go_by_number.ensures.ordered x.1 y.1))
    c.args.keys.items c.sort.new.self.items c.dedup.new.self.items c.sort.ensures.permutation c.in_ok-sort.ensures.sorted c.dedup.ensures.filtered

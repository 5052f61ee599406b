use Rattle.std.proofs.Common.{subst, ℕ, List, Option, Bor}
use Rattle.std.proofs.lemmas.Result.{IfOk-weaker}
use Rattle.walrus_type_order.specs.Order.{IsEmissionOrder}
use Rattle.walrus_type_index.specs.walrus_items.declared.subtype.Type.{«Type» as TypeItem}
use Rattle.walrus_type_arenas.proofs.EmitLemmas.{key-cmp, order-seen}
use Rattle.walrus_type_arenas.proofs.emit.order_of.Goals as goal

pub returns : goal.returns
returns c = IfOk-weaker c.emission_order.result _ _ (λ order is.
    order-seen c.in_ok-keys.keys.items _ order.items c.in_ok-keys.ensures (subst (λ (keys : List (Option (ℕ × Bor TypeItem))). IsEmissionOrder key-cmp keys order.items) c.as_slice.ensures.value is)) c.emission_order.ensures

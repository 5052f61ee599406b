use Rattle.std.proofs.Common.{◌∙◌, ◌≡◌, ap, map, refl, length}
use Rattle.std.specs.List.Sorted.{IsPermutation}
use Rattle.std.proofs.lemmas.List.{take_all}
use Rattle.walrus_index_maps.specs.Runs.{run_from}
use Rattle.walrus_emit_numbers.proofs.Orders.{order_moved, order_sorted, order_within, position}
use Rattle.walrus_emit_numbers.proofs.order.function_order.Goals as goal

pub returns : goal.returns
returns c =
    let facts = c.args.facts.now in
    let sorted = c.sort.new.self.items in
    let is : c.loop-key.order.items ≡ map position sorted =
    c.loop-key.invariant ∙ ap (map position) (take_all c.loop-key.key-index c.deref-key-items.result.now c.loop-key-test.false ∙ c.deref-key-items.ensures.value) in
    let moved : IsPermutation (run_from 0 (length facts)) c.loop-key.order.items =
    order_moved facts c.in_ok-keys.keys.items sorted c.loop-key.order.items (length facts) refl c.in_ok-keys.ensures c.in_ok-sort.ensures.permutation is in
    record {
      within = order_within facts c.loop-key.order.items moved;
      ordered = record {
        all = moved;
        sorted = order_sorted facts c.in_ok-keys.keys.items sorted c.loop-key.order.items (length facts) c.in_ok-keys.ensures c.in_ok-sort.ensures.permutation c.in_ok-sort.ensures.sorted is;
      };
    }

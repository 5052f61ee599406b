use Rattle.std.specs.Prelude.{◌≡◌, map, take}
use Rattle.walrus_emit_numbers.proofs.Orders.{position}
use Rattle.walrus_emit_numbers.proofs.order.function_order.Given as goal

abbrev pub invariant-loop-key : goal.invariant-loop-key
invariant-loop-key l = l.order.items ≡ map position (take l.key-index l.key-items)

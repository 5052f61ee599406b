use Rattle.std.proofs.Common.{◌+◌, ◌*◌, ◌≤◌, ◌^◌, arith}
use Rattle.walrus_type_arenas.proofs.RankLemmas.{digits-fit}
use Rattle.walrus_type_arenas.proofs.rank.digits.Goals as goal

pub overflow_mul-rank : goal.overflow_mul-rank
overflow_mul-rank c =
    let fit : c.loop-value.rank + c.loop-value.weight * c.digit-digit.result ≤ 2 ^ 60 =
    digits-fit c.args.values.now c.loop-value.value-index c.loop-value.rank c.loop-value.weight c.digit-digit.result c.value-item.result c.loop-value-test.true c.value-item.is c.digit-digit.ensures c.loop-value.invariant in
    omega arith

pub overflow_add-rank : goal.overflow_add-rank
overflow_add-rank c =
    let fit : c.loop-value.rank + c.loop-value.weight * c.digit-digit.result ≤ 2 ^ 60 =
    digits-fit c.args.values.now c.loop-value.value-index c.loop-value.rank c.loop-value.weight c.digit-digit.result c.value-item.result c.loop-value-test.true c.value-item.is c.digit-digit.ensures c.loop-value.invariant in
    omega arith

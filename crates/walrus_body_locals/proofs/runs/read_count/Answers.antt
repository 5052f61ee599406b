use Rattle.std.proofs.Common.{arith}
use Rattle.walrus_body_locals.proofs.Counts.{count_limited}
use Rattle.walrus_body_locals.proofs.runs.read_count.Goals as goal

pub returns-then-saturating_add-gt-MOST_LOCALS-clause-read : goal.returns-then-saturating_add-gt-MOST_LOCALS-clause-read
returns-then-saturating_add-gt-MOST_LOCALS-clause-read c =
    count_limited c.args.total c.args.reader.now c.read_var_u32.new.self c.in_ok-count.count c.original_position-offset.result c.in_ok-count.ensures.value
    (let t = c.if-saturating_add-gt-MOST_LOCALS.true in omega (arith, t, c.saturating_add.ensures)) c.original_position-offset.ensures.left c.in_ok-count.ensures.moves

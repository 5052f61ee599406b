use Rattle.std.proofs.Common.{arith}
use Rattle.walrus_used.proofs.SegmentLemmas.{listed_is}
use Rattle.walrus_used.proofs.segments.list.Goals as goal

pub returns-in_ok-push : goal.returns-in_ok-push
returns-in_ok-push c =
    listed_is (λ v. v.items) c.args.lists.now.items c.args.index c.index_mut.result.now c.push.new.self c.args.item (omega (arith, c.if-index-len.true, c.len.ensures, c.args.lists.now.ok.0)) c.index_mut.ensures.value c.in_ok-push.ensures.items

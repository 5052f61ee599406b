use Rattle.std.proofs.Common.{◌+◌, arith}
use Rattle.walrus_index_maps.proofs.MapLemmas.{grown, same_numbering}
use Rattle.walrus_index_maps.proofs.numbers.Numbers.reach.Goals as goal

pub returns-in_ok-resize-clause-same : goal.returns-in_ok-resize-clause-same
returns-in_ok-resize-clause-same g c =
    let had = c.args.self.now.numbers in
    same_numbering _ _ _ (λ n. grown had.items c.resize.new.self.items (c.args.at + 1) _ n (omega (arith, c.if-len-at.true, c.len-len.ensures, had.ok.0)) c.in_ok-resize.ensures.items)

use Rattle.std.proofs.Common.{◌+◌, arith}
use Rattle.std.specs.BTreeMap.{get}
use Rattle.walrus_index_maps.specs.Views.{key_cmp}
use Rattle.walrus_index_maps.proofs.LocalLemmas.{said_grown}
use Rattle.walrus_index_maps.proofs.locals.LocalNumbers.reach.Goals as goal

pub returns-in_ok-resize-clause-same : goal.returns-in_ok-resize-clause-same
returns-in_ok-resize-clause-same c =
    let had = c.args.self.now.last in
    said_grown had.items c.resize.new.self.items (c.args.at + 1) _ (get key_cmp c.args.self.now.earlier) (omega (arith, c.if-len-at.true, c.len-len.ensures, had.ok.0)) c.in_ok-resize.ensures.items

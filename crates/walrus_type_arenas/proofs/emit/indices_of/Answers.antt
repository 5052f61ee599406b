use Rattle.std.proofs.Common.{◌≡◌, get_or, sym, subst}
use Rattle.walrus_type_arenas.proofs.EmitLemmas.{indices-step}
use Rattle.walrus_type_arenas.proofs.emit.indices_of.Goals as goal

pub loop-index-preserved : goal.loop-index-preserved
loop-index-preserved c = indices-step c.args.count c.args.written.now c.loop-index.indices.items c.index.result c.loop-index.index c.requires.within c.loop-index-test.true
    (subst (λ x. x ≡ get_or c.args.written.now c.loop-index.index x) (sym c.index.ensures) c.index-written-index.is) c.loop-index.invariant

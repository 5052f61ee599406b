use Rattle.std.proofs.Common.{◌+◌, subst, sym, List, refl}
use Rattle.walrus_export_reader.specs.declared.repeats.Key.{Key}
use Rattle.walrus_export_reader.proofs.Listed.{AreFirst, one_more}
use Rattle.walrus_export_reader.proofs.repeats.keys.Goals as goal

pub loop-number-preserved : goal.loop-number-preserved
loop-number-preserved c = subst (λ (ks : List Key). AreFirst c.args.exports.now (c.loop-number.number + 1) ks) (sym c.in_ok-push.ensures.items)
    (one_more c.args.exports.now c.loop-number.number c.loop-number.keys.items _ _ c.loop-number-test.true refl refl c.mix.ensures c.loop-number.invariant)

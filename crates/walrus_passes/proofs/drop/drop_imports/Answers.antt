use Rattle.std.proofs.Common.{arith}
use Rattle.walrus_refusals.specs.walrus_used.walrus_module.Items.{brought}
use Rattle.walrus_passes.specs.Keeping.{IsHeld}
use Rattle.walrus_passes.proofs.RestLemmas.{rest_more, rest_all}
use Rattle.walrus_passes.proofs.drop.drop_imports.Goals as goal

pub loop-index-preserved : goal.loop-index-preserved
loop-index-preserved c =
    rest_more (λ _ import. IsHeld c.args.kept.now (brought import.kind)) c.args.imports.now c.loop-index.imports c.drop_import_at.new.imports c.loop-index.index c.from_index.result c.from_index.ensures c.loop-index.invariant c.drop_import_at.ensures

pub returns : goal.returns
returns c =
    rest_all (λ _ import. IsHeld c.args.kept.now (brought import.kind)) c.args.imports.now c.loop-index.imports c.loop-index.index (omega (arith, c.loop-index-test.false, c.loop-index.auto.index-end, c.index-index-end.ensures, c.next_id.ensures)) c.loop-index.invariant

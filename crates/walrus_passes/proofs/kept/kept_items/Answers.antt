use Rattle.walrus_refusals.specs.walrus_used.walrus_module.Parts.{parts}
use Rattle.walrus_passes.proofs.KeptLemmas.{held_kept}
use Rattle.walrus_passes.proofs.kept.kept_items.Goals as goal

pub returns-clause-kept : goal.returns-clause-kept
returns-clause-kept g c = λ x. held_kept (parts c.args.input.now) c.args.pushed.now c.in_ok-marks.marks c.in_ok-marks.ensures.reached c.spared_memory-spared.result c.spared_memory-spared.ensures x

use Rattle.walrus_refusals.specs.walrus_used.walrus_module.Parts.{parts}
use Rattle.walrus_passes.specs.Keeping.{IsHeld}
use Rattle.walrus_passes.proofs.PartLemmas.{just_kept}
use Rattle.walrus_passes.proofs.used.Used.from_roots.Goals as goal

pub returns-clause-kept : goal.returns-clause-kept
returns-clause-kept g c =
    just_kept (parts c.args.input.now) c.args.pushed.now c.types_are_grouped.ensures c.in_ok-kept.ensures.sound (IsHeld c.in_ok-kept.kept) c.in_ok-kept.ensures.kept c.in_ok-used.used c.in_ok-used.ensures

use Rattle.walrus_refusals.specs.walrus_used.walrus_module.Parts.{parts}
use Rattle.walrus_passes.specs.Keeping.{IsHeld}
use Rattle.walrus_refusals.specs.walrus_used.walrus_references.Kept.{Kept}
use Rattle.walrus_passes.proofs.PartLemmas.{held_closed, part_as}
use Rattle.walrus_passes.proofs.gc.run_from_roots.Goals as goal

pub drop_unkept-requires-clause-closed : goal.drop_unkept-requires-clause-closed
drop_unkept-requires-clause-closed g c = held_closed (parts c.args.input.now) c.args.pushed.now (IsHeld c.in_ok-kept.kept) c.in_ok-kept.ensures.kept

pub returns-clause-kept : goal.returns-clause-kept
returns-clause-kept g c = part_as (IsHeld c.in_ok-kept.kept) (Kept (parts c.args.input.now) c.args.pushed.now) (parts c.args.input.now) (parts c.drop_unkept.new.input) c.in_ok-kept.ensures.kept c.drop_unkept.ensures.part

pub drop_unkept-requires-clause-listed : goal.drop_unkept-requires-clause-listed
drop_unkept-requires-clause-listed g c = rw c.as_mut_slice.ensures.value c.in_ok-types.ensures

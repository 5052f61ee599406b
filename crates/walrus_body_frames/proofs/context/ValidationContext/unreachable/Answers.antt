use Rattle.std.proofs.Common.{refl}
use Rattle.walrus_body_frames.specs.Frames.{cut_off}
use Rattle.walrus_body_frames.proofs.Editing.{edits_innermost}
use Rattle.walrus_body_frames.proofs.context.ValidationContext.unreachable.Goals as goal

pub returns-clause-marked : goal.returns-clause-marked
returns-clause-marked c =
    edits_innermost cut_off c.args.self.now.controls.items c.in-Some.index c.index_mut.result.now _ c.in-Some.ensures.0 c.index_mut.ensures.value refl

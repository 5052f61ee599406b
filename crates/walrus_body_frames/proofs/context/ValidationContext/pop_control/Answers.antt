use Rattle.std.proofs.Common.{◌∙◌, sym, ap, refl, [], ◌∷◌, ◌++◌}
use Rattle.std.specs.declared.alloc.Global.{Global}
use Rattle.std.specs.declared.vec.Vec.{Vec}
use Rattle.walrus_body_frames.specs.declared.frame.ControlFrame.{ControlFrame}
use Rattle.walrus_body_frames.specs.Frames.{frame, frames}
use Rattle.walrus_body_frames.proofs.Editing.{frames_append}
use Rattle.walrus_body_frames.proofs.context.ValidationContext.pop_control.Goals as goal

pub returns-clause-closed : goal.returns-clause-closed
returns-clause-closed c =
    let closed = c.in-Some.closed in (
      closed.instrs.items,
      ap frames c.in-Some.ensures.items ∙ frames_append c.pop.new.self.items closed ∙ ap (λ (v : Vec ControlFrame Global). frames v.items ++ frame closed ∷ []) (sym c.fill.ensures.frames),
      c.new.ensures.items,
      refl,
      c.fill.ensures.filled,
    )

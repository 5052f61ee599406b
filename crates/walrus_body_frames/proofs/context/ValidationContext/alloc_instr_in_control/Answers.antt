use Rattle.std.proofs.Common.{arith, refl}
use Rattle.walrus_body_frames.specs.Frames.{IsUnadded, frames, with_instr}
use Rattle.walrus_body_frames.proofs.Editing.{edits_at, frames_length, if_memory, on_err, set_stays, wants_memory}
use Rattle.walrus_body_frames.proofs.context.ValidationContext.alloc_instr_in_control.Goals as goal

pub returns-clause-added : goal.returns-clause-added
returns-clause-added c =
    edits_at (with_instr c.args.instr c.args.place) c.args.self.now.controls.items c.in-Some.index c.args.n c.index_mut.result.now c.add.new.self c.in-Some.ensures.0 c.index_mut.ensures.value c.in_ok-add.ensures

pub returns-in_err-add-clause-refused : goal.returns-in_err-add-clause-refused
returns-in_err-add-clause-refused c =
    on_err c.from_residual.result _ (set_stays c.args.self.now.controls.items c.in-Some.index c.index_mut.result.now c.add.new.self c.index_mut.ensures.value c.in_err-add.ensures.0)

pub returns-in_default-clause-cause : goal.returns-in_default-clause-cause
returns-in_default-clause-cause c = (refl, omega (arith, frames_length c.args.self.now.controls.items, c.in_default.ensures))

pub returns-in_err-add-clause-cause : goal.returns-in_err-add-clause-cause
returns-in_err-add-clause-cause c =
    let fs = c.args.self.now.controls.items in
    if_memory c.from_residual.result (IsUnadded (frames fs) c.args.n) (wants_memory fs c.in-Some.index c.args.n c.index_mut.result.now c.in-Some.ensures c.index_mut.ensures.value c.in_err-add.ensures.1) c.from_residual.ensures

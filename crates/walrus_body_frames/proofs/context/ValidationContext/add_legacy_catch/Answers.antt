use Rattle.walrus_body_frames.specs.Frames.{with_catch}
use Rattle.walrus_body_frames.proofs.Editing.{edits_innermost, on_err, set_stays}
use Rattle.walrus_body_frames.proofs.context.ValidationContext.add_legacy_catch.Goals as goal

pub returns-clause-added : goal.returns-clause-added
returns-clause-added c =
    edits_innermost (with_catch c.args.part) c.args.self.now.controls.items c.in-Some.index c.index_mut.result.now c.add_catch.new.self c.in-Some.ensures.0 c.index_mut.ensures.value c.in_ok-add_catch.ensures

pub returns-in_err-add_catch-clause-refused : goal.returns-in_err-add_catch-clause-refused
returns-in_err-add_catch-clause-refused c =
    on_err c.from_residual.result _ (set_stays c.args.self.now.controls.items c.in-Some.index c.index_mut.result.now c.add_catch.new.self c.index_mut.ensures.value c.in_err-add_catch.ensures)

use Rattle.std.proofs.Common.{◌∙◌, sym, ap, [], ◌∷◌, ◌++◌}
use Rattle.std.proofs.lemmas.List.{length-map}
use Rattle.walrus_builder.specs.Built.{seq_of}
use Rattle.walrus_body_frames.specs.Frames.{Frame, frames}
use Rattle.walrus_body_frames.proofs.Editing.{frames_append}
use Rattle.walrus_body_frames.proofs.context.ValidationContext.push.Goals as goal

pub returns-clause-opened : goal.returns-clause-opened
returns-clause-opened c =
    let old = c.args.self.now.controls.items in
    record {
      frames = ap frames c.in_ok-push.ensures.items ∙ frames_append old c.new-frame.result ∙ ap (λ (w : Frame). frames old ++ w ∷ []) c.new-frame.ensures;
      id = c.in_ok-block.ensures.id ∙ sym (length-map c.args.self.now.function.builder.seqs seq_of);
      added = c.in_ok-block.ensures.added;
    }

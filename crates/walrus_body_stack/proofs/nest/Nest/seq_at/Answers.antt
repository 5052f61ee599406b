use Rattle.std.proofs.Common.{◌∙◌, ap, sym}
use Rattle.std.specs.Prelude.{slice_get}
use Rattle.std.specs.Option.{option_map}
use Rattle.walrus_body_stack.specs.declared.nest.Slot.{Slot}
use Rattle.walrus_body_stack.specs.Held.{Nested, seqs_in}
use Rattle.walrus_body_stack.proofs.Nests.{seq_around}
use Rattle.walrus_body_stack.proofs.nest.Nest.seq_at.Goals as goal

pub returns : goal.returns
returns c =
    let n = c.self.inside in
    c.seq_of.ensures ∙ ap (option_map (λ (s : Slot). s.frame.seq)) c.at.ensures
    ∙ sym (seq_around n.inner n.outer n.list.items n.aside c.args.depth c.if-depth-eq0.false)
    ∙ ap (λ (v : Nested). slice_get (seqs_in v) c.args.depth) c.self.view_is

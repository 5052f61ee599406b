use Rattle.std.proofs.Common.{ℕ, List, sym, ap, ◌∙◌}
use Rattle.std.specs.Prelude.{slice_get}
use Rattle.walrus_body_stack.proofs.Labels.{ids_are}
use Rattle.walrus_body_stack.proofs.stack.Stack.label.Goals as goal

pub returns : goal.returns
returns c = c.seq_at.ensures ∙ ap (λ (ks : List ℕ). slice_get ks c.args.depth) (sym (ids_are c.args.self.now))

use Rattle.std.proofs.Common.{◌∙◌, ap, sym, length}
use Rattle.walrus_body_stack.specs.Held.{Nested}
use Rattle.walrus_body_stack.specs.Slots.{lower, further}
use Rattle.walrus_body_stack.proofs.Nests.{held_count}
use Rattle.walrus_body_stack.proofs.nest.Nest.outer_count.Goals as goal

pub returns : goal.returns
returns c =
    let n = c.self.inside in
    c.len.ensures ∙ sym (held_count n.outer (lower n.inner.apart n.inner.begin n.list.items n.aside) (further n.inner.apart n.aside)) ∙ ap (λ (v : Nested). length v.outer) c.self.view_is

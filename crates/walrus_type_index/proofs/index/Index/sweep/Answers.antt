use Rattle.std.proofs.Common.{◌∙◌, ap, filter, not}
use Rattle.walrus_type_index.specs.Ordered.{Indexed, is_marked}
use Rattle.walrus_type_index.proofs.DirectoryLemmas.{swept-done}
use Rattle.walrus_type_index.proofs.index.Index.sweep.Goals as goal

pub invariant_of-self : goal.invariant_of-self
invariant_of-self c =
    let i = c.self.inside in (
      c.self.invariant.0,
      (swept-done i.shift (λ x. not (is_marked c.args.marks.now x.id)) i.forest.trees i.forest.last c.sweep.new.self.trees c.sweep.new.self.last c.sweep.ensures.trees c.sweep.ensures.last c.self.invariant.1).0,
    )

pub returns-clause-ids : goal.returns-clause-ids
returns-clause-ids c =
    let i = c.self.inside in
    (swept-done i.shift (λ x. not (is_marked c.args.marks.now x.id)) i.forest.trees i.forest.last c.sweep.new.self.trees c.sweep.new.self.last c.sweep.ensures.trees c.sweep.ensures.last c.self.invariant.1).1
    ∙ ap (λ (v : Indexed). filter (λ x. not (is_marked c.args.marks.now x.id)) v.ids) c.self.view_is

use Rattle.std.proofs.Common.{Decides, IfOk, MatchOption, Option, sym, subst}
use Rattle.walrus_used.specs.walrus_module.walrus_module_items.declared.function.Function.{Function}
use Rattle.walrus_used.specs.walrus_references.Refused.{HasTree}
use Rattle.walrus_refusals.proofs.trees.has_tree_at.Goals as goal

pub returns : goal.returns
returns c = subst (λ (o : Option Function). IfOk c.has_tree.result (λ ok. Decides ok (MatchOption o (Unit {0}) (λ f. HasTree f.kind)))) (sym c.get.ensures) c.has_tree.ensures

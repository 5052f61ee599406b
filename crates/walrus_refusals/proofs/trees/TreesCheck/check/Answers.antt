use Rattle.std.proofs.Common.{Decides, IfOk, MatchOption, ℕ, sym, subst}
use Rattle.wasm_formats.specs.declared.fault.Space.{Space}
use Rattle.walrus_used.specs.walrus_module.Parts.{parts}
use Rattle.walrus_arena.specs.Arena.{item_at}
use Rattle.walrus_used.specs.walrus_module.walrus_module_items.declared.function.Function.{Function}
use Rattle.walrus_used.specs.walrus_references.Refused.{HasTree, IsTreeIn}
use Rattle.walrus_refusals.proofs.trees.TreesCheck.check.Goals as goal

pub returns-in-Function : goal.returns-in-Function
returns-in-Function g c =
    let m = parts c.args.self.now.input.now in
    subst (λ (s : Space). IfOk c.has_tree_at.result (λ ok. Decides ok (IsTreeIn m s c.args.item.id))) (sym c.in-Function.is)
    (subst (λ (k : ℕ). IfOk c.has_tree_at.result (λ ok. Decides ok (MatchOption (item_at m.funcs k) (Unit {0}) (λ (f : Function). HasTree f.kind)))) c.id.ensures c.has_tree_at.ensures)

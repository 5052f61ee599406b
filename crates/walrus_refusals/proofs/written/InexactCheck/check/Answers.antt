use Rattle.std.proofs.Common.{Decides, IfOk, MatchOption, ℕ, sym, subst}
use Rattle.wasm_formats.specs.declared.fault.Space.{Space}
use Rattle.walrus_used.specs.walrus_module.Parts.{parts}
use Rattle.walrus_arena.specs.Arena.{item_at}
use Rattle.walrus_used.specs.walrus_module.walrus_module_items.declared.function.Function.{Function}
use Rattle.walrus_refusals.specs.Written.{HasNoExactIn, KindHasNone}
use Rattle.walrus_refusals.proofs.written.InexactCheck.check.Goals as goal

pub returns-in-Function : goal.returns-in-Function
returns-in-Function g c =
    let m = parts c.args.self.now.input.now in
    subst (λ (s : Space). IfOk c.function_has_none.result (λ ok. Decides ok (HasNoExactIn m s c.args.item.id))) (sym c.in-Function.is)
    (subst (λ (k : ℕ). IfOk c.function_has_none.result (λ ok. Decides ok (MatchOption (item_at m.funcs k) (Unit {0}) (λ (f : Function). KindHasNone f.kind)))) c.id-in-Function.ensures c.function_has_none.ensures)

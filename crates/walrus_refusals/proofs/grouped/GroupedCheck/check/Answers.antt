use Rattle.std.proofs.Common.{Decides, IfOk, ℕ, sym, subst}
use Rattle.wasm_formats.specs.declared.fault.Space.{Space}
use Rattle.walrus_used.specs.walrus_module.Parts.{parts}
use Rattle.walrus_refusals.specs.Written.{NamesNoLater, StaysIn}
use Rattle.walrus_refusals.proofs.grouped.GroupedCheck.check.Goals as goal

pub returns-in-Type : goal.returns-in-Type
returns-in-Type g c =
    let m = parts c.args.self.now.input.now in
    subst (λ (s : Space). IfOk c.names_no_later.result (λ ok. Decides ok (StaysIn m s c.args.item.id))) (sym c.in-Type.is)
    (subst (λ (k : ℕ). IfOk c.names_no_later.result (λ ok. Decides ok (NamesNoLater m.types k))) c.id.ensures c.names_no_later.ensures)

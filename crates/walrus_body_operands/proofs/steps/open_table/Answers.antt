use Rattle.std.proofs.Common.{List, [], ◌∷◌, Option, None, sym, ap, subst, inl, inr, ◌≡◌, ◌∙◌}
use Rattle.wasm_operators.specs.declared.clause.Clause.{Clause}
use Rattle.wasm_operators.specs.Items.{ManyClauses}
use Rattle.wasm_formats.specs.Stops.{Trouble}
use Rattle.walrus_operators.specs.declared.immediates.Immediates.{Immediates}
use Rattle.walrus_operators.specs.Immediates.{items_of, kind_is}
use Rattle.walrus_body_steps.specs.walrus_body_nesting.Faults.{IsRefusal}
use Rattle.walrus_body_steps.specs.Meanings.{AreClauses}
use Rattle.walrus_body_operands.specs.Asked.{try_test}
use Rattle.walrus_body_operands.specs.Listed.{holds_list}
use Rattle.walrus_body_operands.proofs.Finish.{try_test_is}
use Rattle.walrus_body_operands.proofs.steps.open_table.Goals as goal

pub returns-in-Ok : goal.returns-in-Ok
returns-in-Ok g c =
    let s = g.S.Scope.sight c.args.scope.now in
    let ids = g.L.Labels.ids c.args.labels.now in
    let op = c.args.op.now in
    let w = c.in-TryTable in
    let got = c.in-Ok.ensures in
    let more = got.1 in
    let is = ap items_of w.is in
    let none = subst (λ (cs : List Clause). try_test s ids w.ty cs ≡ None) c.as_slice.ensures.value got.0 in
    let are = subst (λ (cs : List Clause). AreClauses s ids cs c.in-Ok.found.0.items) c.as_slice.ensures.value more.0 in
    (try_test_is s ids op w.ty w.clauses w.is ∙ none, ((c.requires.opens, w.ty, w.clauses.items, is, are), (w.ty, ManyClauses w.clauses.items ∷ [], is, more.1)))

pub returns-in-Err : goal.returns-in-Err
returns-in-Err g c =
    let s = g.S.Scope.sight c.args.scope.now in
    let ids = g.L.Labels.ids c.args.labels.now in
    let op = c.args.op.now in
    let w = c.in-TryTable in
    let refused = subst (λ (cs : List Clause). IsRefusal (try_test s ids w.ty cs) c.args.offset c.in-Err.fault) c.as_slice.ensures.value c.in-Err.ensures in
    let may = ap (λ (x : Immediates). holds_list (kind_is x)) w.is in
    elim (subst (λ (t : Option Trouble). IsRefusal t c.args.offset c.in-Err.fault) (sym (try_test_is s ids op w.ty w.clauses w.is)) refused) [ inl memory ↦ inl (memory, may) | inr fails ↦ inr fails ]

use Rattle.std.proofs.Common.{◌≡◌, true, sym, ap, ◌∙◌}
use Rattle.walrus_index_maps.specs.Maps.{Ids}
use Rattle.walrus_pairing.specs.Types.{read_heap}
use Rattle.std.specs.Prelude.{slice_get, Ok, Err}
use Rattle.wasm_operators.specs.Items.{Types}
use Rattle.walrus_body_steps.specs.walrus_body_rules.Sights.{look}
use Rattle.walrus_body_operands.specs.Asked.{is_filed}
use Rattle.walrus_body_operands.proofs.Told.{heap_passed, heap_refused}
use Rattle.walrus_body_operands.proofs.types.heap_type.Goals as goal

pub returns-in-Err : goal.returns-in-Err
returns-in-Err g c =
    let s = g.S.Scope.sight c.args.scope.now in
    let filed : is_filed c.args.ty ≡ true = sym c.is_filed.ensures ∙ c.if-not-is_filed.false in
    let same : read_heap (look s Types) c.args.ty ≡ Err c.in-Err.error = ap (λ (m : Ids). read_heap (slice_get m.types) c.args.ty) (sym c.indices.ensures) ∙ sym c.read_heap.ensures ∙ c.in-Err.is in
    heap_refused s c.args.ty c.in-Err.error c.args.offset c.fault_of.result filed same c.fault_of.ensures

pub returns-in-Ok : goal.returns-in-Ok
returns-in-Ok g c =
    let s = g.S.Scope.sight c.args.scope.now in
    let filed : is_filed c.args.ty ≡ true = sym c.is_filed.ensures ∙ c.if-not-is_filed.false in
    let same : read_heap (look s Types) c.args.ty ≡ Ok c.in-Ok.own = ap (λ (m : Ids). read_heap (slice_get m.types) c.args.ty) (sym c.indices.ensures) ∙ sym c.read_heap.ensures ∙ c.in-Ok.is in
    (heap_passed s c.args.ty c.in-Ok.own filed same, same)

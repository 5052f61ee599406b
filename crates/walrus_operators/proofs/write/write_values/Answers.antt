use Rattle.std.proofs.Common.{◌++◌, ◌∙◌, length, ap}
use Rattle.std.proofs.lemmas.Result.{err_from_is_err_and}
use Rattle.wasm_ref_types.specs.declared.value.ValType.{ValType}
use Rattle.wasm_operators.specs.Bytes.{unsigned_bytes, value_bytes}
use Rattle.walrus_operators.proofs.Keeps.{keeps_on}
use Rattle.walrus_operators.proofs.Appends.{list_begins, list_goes_on, list_ends}
use Rattle.walrus_operators.proofs.write.write_values.Goals as goal

pub returns-in_err-write_unsigned : goal.returns-in_err-write_unsigned
returns-in_err-write_unsigned c =
    let p = err_from_is_err_and c.from_residual.result c.from_residual.ensures.1 in
    rw p.1 c.in_err-write_unsigned.ensures

pub loop-ty-init : goal.loop-ty-init
loop-ty-init c = list_begins c.args.out.now.items c.write_unsigned.new.out.items (unsigned_bytes (length c.args.types.now)) c.in_ok-write_unsigned.ensures

pub returns-in_err-write_value_type : goal.returns-in_err-write_value_type
returns-in_err-write_value_type c =
    let p = err_from_is_err_and c.from_residual-in_err-write_value_type.result c.from_residual-in_err-write_value_type.ensures.1 in
    rw p.1 (keeps_on c.args.out.now.items c.loop-ty.out.items c.write_value_type.new.out.items _ c.loop-ty.invariant c.in_err-write_value_type.ensures)

pub loop-ty-preserved : goal.loop-ty-preserved
loop-ty-preserved c =
    list_goes_on value_bytes c.args.out.now.items c.loop-ty.out.items c.write_value_type.new.out.items (unsigned_bytes (length c.args.types.now)) c.args.types.now c.loop-ty.ty-index c.ty-item.result
    c.loop-ty-test.true c.loop-ty.invariant (c.in_ok-write_value_type.ensures ∙ ap (λ (x : ValType). c.loop-ty.out.items ++ value_bytes x) c.ty-item.is)

pub returns : goal.returns
returns c =
    list_ends value_bytes c.args.out.now.items c.loop-ty.out.items (unsigned_bytes (length c.args.types.now)) c.args.types.now c.loop-ty.ty-index c.loop-ty-test.false c.loop-ty.invariant

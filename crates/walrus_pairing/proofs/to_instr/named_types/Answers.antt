use Rattle.std.proofs.Common.{◌∙◌, slice_get, ap}
use Rattle.std.proofs.lemmas.Result.{err_from_is_err_and}
use Rattle.wasm_ref_types.specs.declared.value.ValType.{ValType}
use Rattle.walrus_index_maps.specs.Views.{ids}
use Rattle.walrus_pairing.specs.Types.{named_value}
use Rattle.walrus_pairing.proofs.Rest.{one_more, none_left}
use Rattle.walrus_pairing.proofs.to_instr.named_types.Goals as goal

pub returns-in_err-named_type : goal.returns-in_err-named_type
returns-in_err-named_type c =
    let p = err_from_is_err_and c.from_residual.result c.from_residual.ensures.1 in
    rw (p.1, p.2) (one_more (slice_get (ids c.args.maps.now).types) c.args.types.now c.loop-ty.ty-index c.ty-item.result _
    c.loop-ty-test.true c.loop-ty.invariant (c.in_err-named_type.ensures ∙ ap (λ (x : ValType). named_value (slice_get (ids c.args.maps.now).types) x) c.ty-item.is))

pub loop-ty-preserved : goal.loop-ty-preserved
loop-ty-preserved c =
    one_more (slice_get (ids c.args.maps.now).types) c.args.types.now c.loop-ty.ty-index c.ty-item.result _
    c.loop-ty-test.true c.loop-ty.invariant (c.in_ok-named_type.ensures ∙ ap (λ (x : ValType). named_value (slice_get (ids c.args.maps.now).types) x) c.ty-item.is)

pub returns : goal.returns
returns c = none_left (slice_get (ids c.args.maps.now).types) c.args.types.now c.loop-ty.ty-index c.loop-ty-test.false c.loop-ty.invariant

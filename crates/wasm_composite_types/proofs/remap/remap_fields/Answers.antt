use Rattle.std.proofs.Common.{ap, sym, ◌∙◌, arith, length, get_or, List, length-set}
use Rattle.std.proofs.lemmas.Result.{err_from_is_err_and}
use Rattle.std.specs.Fn.{CalledAtMut}
use Rattle.wasm_composite_types.specs.declared.field.FieldType.{FieldType}
use Rattle.wasm_composite_types.specs.Remap.{VisitsField}
use Rattle.wasm_composite_types.proofs.Visits.{begins, more, stays, ends}
use Rattle.wasm_composite_types.proofs.remap.remap_fields.Goals as goal

pub loop-i-init : goal.loop-i-init
loop-i-init g c = (begins (CalledAtMut g.F.FnMut) (VisitsField (CalledAtMut g.F.FnMut)) c.args.map.now c.args.fields.now, ap length (sym c.as_slice-i-end.ensures), c.requires)

pub returns-in_err-field-clause-visits : goal.returns-in_err-field-clause-visits
returns-in_err-field-clause-visits g c =
    let p = err_from_is_err_and c.from_residual.result c.from_residual.ensures.1 in
    let here = c.index-as_slice-i.is ∙ ap (λ (l : List FieldType). get_or l c.loop-i.i c.index-as_slice-i.result) c.as_slice.ensures in
    rw (p.1, p.2) (stays (CalledAtMut g.F.FnMut) (VisitsField (CalledAtMut g.F.FnMut)) c.args.map.now c.loop-i.map c.remap_field.new.map c.args.fields.now c.loop-i.fields c.loop-i.i c.index-as_slice-i.result
    c.loop-i.invariant.0 here (omega (arith, c.loop-i-test.true, c.loop-i.invariant.1)) c.in_err-field.field-0.0 c.in_err-field.ensures.visits)

pub set-requires : goal.set-requires
set-requires g c = omega (arith, c.loop-i-test.true, c.loop-i.invariant.1)

pub loop-i-preserved : goal.loop-i-preserved
loop-i-preserved g c =
    let here = c.index-as_slice-i.is ∙ ap (λ (l : List FieldType). get_or l c.loop-i.i c.index-as_slice-i.result) c.as_slice.ensures in (
      rw c.set.ensures (more (CalledAtMut g.F.FnMut) (VisitsField (CalledAtMut g.F.FnMut)) c.args.map.now c.loop-i.map c.remap_field.new.map c.args.fields.now c.loop-i.fields c.loop-i.i c.index-as_slice-i.result
          c.loop-i.invariant.0 here (omega (arith, c.loop-i-test.true, c.loop-i.invariant.1)) c.in_ok-field.field c.in_ok-field.ensures.visits),
      ap length c.set.ensures ∙ length-set c.loop-i.fields c.loop-i.i c.in_ok-field.field ∙ c.loop-i.invariant.1,
      c.in_ok-field.ensures.callable,
    )

pub returns-clause-visits : goal.returns-clause-visits
returns-clause-visits g c =
    ends (CalledAtMut g.F.FnMut) (VisitsField (CalledAtMut g.F.FnMut)) c.args.map.now c.loop-i.map c.args.fields.now c.loop-i.fields c.loop-i.i c.loop-i.invariant.0 (omega (arith, c.loop-i-test.false, c.loop-i.invariant.1))

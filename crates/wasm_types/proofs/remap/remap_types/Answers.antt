use Rattle.std.proofs.Common.{arith, ◌∙◌, length-set}
use Rattle.std.proofs.lemmas.Result.{err_from_is_err_and}
use Rattle.std.specs.Fn.{CalledAtMut}
use Rattle.wasm_types.specs.Remap.{VisitsSub}
use Rattle.wasm_composite_types.proofs.Visits.{more, stops, ends}
use Rattle.wasm_types.proofs.remap.remap_types.Goals as goal

pub returns-in_err-remap_sub-clause-visits : goal.returns-in_err-remap_sub-clause-visits
returns-in_err-remap_sub-clause-visits g c =
    let p = err_from_is_err_and c.from_residual.result c.from_residual.ensures.1 in
    rw (p.1, p.2) (stops (CalledAtMut g.F.FnMut) (VisitsSub (CalledAtMut g.F.FnMut)) c.args.map.now c.loop-i.map c.remap_sub.new.map c.args.types.now.items c.loop-i.types.items c.loop-i.i c.index_mut.result.now
    c.loop-i.invariant.0 c.index_mut.ensures.value (omega (arith, c.loop-i-test.true, c.loop-i.invariant.1)) c.in_err-remap_sub.field-0.0 c.remap_sub.new.ty c.in_err-remap_sub.ensures.visits)

pub loop-i-preserved : goal.loop-i-preserved
loop-i-preserved g c = (
  more (CalledAtMut g.F.FnMut) (VisitsSub (CalledAtMut g.F.FnMut)) c.args.map.now c.loop-i.map c.remap_sub.new.map c.args.types.now.items c.loop-i.types.items c.loop-i.i c.index_mut.result.now
      c.loop-i.invariant.0 c.index_mut.ensures.value (omega (arith, c.loop-i-test.true, c.loop-i.invariant.1)) c.remap_sub.new.ty c.in_ok-remap_sub.ensures.visits,
  length-set c.loop-i.types.items c.loop-i.i c.remap_sub.new.ty ∙ c.loop-i.invariant.1,
  c.in_ok-remap_sub.ensures.callable,
)

pub returns-clause-visits : goal.returns-clause-visits
returns-clause-visits g c =
    ends (CalledAtMut g.F.FnMut) (VisitsSub (CalledAtMut g.F.FnMut)) c.args.map.now c.loop-i.map c.args.types.now.items c.loop-i.types.items c.loop-i.i c.loop-i.invariant.0 (omega (arith, c.loop-i-test.false, c.loop-i.invariant.1))

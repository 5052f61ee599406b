use Rattle.std.proofs.Common.{◌≡◌, Some, arith}
use Rattle.std.specs.Prelude.{slice_get}
use Rattle.std.proofs.lemmas.Option.{slice_get_within}
use Rattle.walrus_body_text.specs.declared.todo.Place.{Place}
use Rattle.walrus_body_text.specs.declared.todo.Todo.TheVariants.{Inside}
use Rattle.walrus_body_text.specs.Walking.{advanced}
use Rattle.walrus_body_text.specs.Visiting.{TellsOff}
use Rattle.walrus_body_text.proofs.Runs.{on_err, tells_more, tells_none, turn_tells, wants_more, wants_there}
use Rattle.walrus_body_text.proofs.Tests.{skips_more, skips_none, turn_skips}
use Rattle.walrus_body_text.proofs.visit.tell_plain.Goals as goal

pub returns-in_err-instr-clause-refused : goal.returns-in_err-instr-clause-refused
returns-in_err-instr-clause-refused g c =
    let step = g.V.TextVisitor.step in
    let same = g.V.TextVisitor.same in
    let b = c.args.seqs.now in
    let here : Place = record { seq = c.args.place.seq; next = c.loop-instr.next; closer = c.args.place.closer } in
    on_err c.from_residual.result (TellsOff step same b (Inside c.args.place) c.args.visitor.now c.instr.new.self)
    (wants_more step same b (Inside c.args.place) (Inside here) c.args.visitor.now c.loop-instr.visitor c.instr.new.self c.loop-instr.invariant.goes
    (wants_there step same b (Inside here) c.loop-instr.visitor c.instr.new.self c.in_err-instr.ensures.refused))

pub loop-instr-smaller : goal.loop-instr-smaller
loop-instr-smaller g c =
    let l = slice_get_within c.in-Some.seq.now.instrs.items c.loop-instr.next c.in-Some-plain_at.field-0.now c.in-Some-plain_at.ensures.item.0 in
    omega (arith, l)

pub loop-instr-preserved : goal.loop-instr-preserved
loop-instr-preserved g c =
    let step = g.V.TextVisitor.step in
    let same = g.V.TextVisitor.same in
    let b = c.args.seqs.now in
    let here : Place = record { seq = c.args.place.seq; next = c.loop-instr.next; closer = c.args.place.closer } in
    let i = c.in-Some-plain_at.field-0.now in
    let d = c.args.depths.now in
    let s = c.in-Some.seq.now in
    let found : slice_get b here.seq ≡ Some s = let e = c.in-Some.ensures in cc in
    let stands = c.in-Some-plain_at.ensures.item.0 in
    let none = c.in-Some-plain_at.ensures.item.1 in
    record {
      goes =
          tells_more step same b (Inside c.args.place) (Inside here) (Inside (advanced here)) c.args.visitor.now c.loop-instr.visitor c.instr.new.self c.loop-instr.invariant.goes
          (turn_tells b here s i found stands none step same c.loop-instr.visitor c.instr.new.self c.in_ok-instr.ensures.told);
      tested = skips_more b d (Inside c.args.place) (Inside here) (Inside (advanced here)) c.loop-instr.invariant.tested (turn_skips b here s i d found stands none c.in-Some-plain_at.ensures.item.2);
    }

pub loop-instr-init : goal.loop-instr-init
loop-instr-init g c =
    let b = c.args.seqs.now in
    record { goes = tells_none g.V.TextVisitor.step g.V.TextVisitor.same b (Inside c.args.place) c.args.visitor.now; tested = skips_none b c.args.depths.now (Inside c.args.place) }

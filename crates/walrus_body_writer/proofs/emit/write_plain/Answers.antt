use Rattle.std.proofs.Common.{◌≡◌, Some, arith}
use Rattle.std.specs.Prelude.{slice_get}
use Rattle.std.proofs.lemmas.Option.{slice_get_within}
use Rattle.walrus_body_text.specs.declared.todo.Place.{Place}
use Rattle.walrus_body_text.specs.declared.todo.Todo.TheVariants.{Inside}
use Rattle.walrus_body_text.specs.Doing.{label_by}
use Rattle.walrus_body_text.specs.Walking.{advanced}
use Rattle.walrus_body_writer.specs.Numbers.{look_of}
use Rattle.walrus_body_writer.specs.Spelled.{written_instr}
use Rattle.walrus_body_writer.proofs.Fronts.{first_itself, first_on, first_put, first_same}
use Rattle.walrus_body_writer.proofs.Runs.{refuses_more, turn_refuses, turn_writes, writes_more, writes_none}
use Rattle.walrus_body_text.proofs.Tests.{skips_more, skips_none, turn_skips}
use Rattle.walrus_body_writer.proofs.emit.write_plain.Goals as goal

pub returns-in-Err-clause-off : goal.returns-in-Err-clause-off
returns-in-Err-clause-off c =
    let look = look_of c.args.numbers.now in
    let b = c.args.seqs.now in
    let d = c.args.depths.now in
    let here : Place = record { seq = c.args.place.seq; next = c.loop-instr.next; closer = c.args.place.closer } in
    let i = c.in-Some-plain_at.field-0.now in
    let e = c.in-Err.error in
    refuses_more look b d (Inside c.args.place) (Inside here) e c.args.out.now c.loop-instr.out c.write_one.new.out c.loop-instr.invariant.goes
    (turn_refuses b here c.in-Some.seq.now i (let e = c.in-Some.ensures in cc) c.in-Some-plain_at.ensures.item.0 c.in-Some-plain_at.ensures.item.1 look d c.loop-instr.out c.write_one.new.out e c.in-Err.ensures)

pub loop-instr-smaller : goal.loop-instr-smaller
loop-instr-smaller c =
    let l = slice_get_within c.in-Some.seq.now.instrs.items c.loop-instr.next c.in-Some-plain_at.field-0.now c.in-Some-plain_at.ensures.item.0 in
    omega (arith, l)

pub loop-instr-preserved : goal.loop-instr-preserved
loop-instr-preserved c =
    let look = look_of c.args.numbers.now in
    let b = c.args.seqs.now in
    let d = c.args.depths.now in
    let here : Place = record { seq = c.args.place.seq; next = c.loop-instr.next; closer = c.args.place.closer } in
    let i = c.in-Some-plain_at.field-0.now in
    let s = c.in-Some.seq.now in
    let found : slice_get b here.seq ≡ Some s = let e = c.in-Some.ensures in cc in
    let stands = c.in-Some-plain_at.ensures.item.0 in
    let none = c.in-Some-plain_at.ensures.item.1 in
    record {
      goes =
          writes_more look b d (Inside c.args.place) (Inside here) (Inside (advanced here)) c.args.out.now c.loop-instr.out c.write_one.new.out c.loop-instr.invariant.goes
          (turn_writes b here s i found stands none look d c.loop-instr.out c.write_one.new.out c.in-Ok.ensures);
      tested = skips_more b d (Inside c.args.place) (Inside here) (Inside (advanced here)) c.loop-instr.invariant.tested (turn_skips b here s i d found stands none c.in-Some-plain_at.ensures.item.2);
      front = first_on c.args.out.now c.loop-instr.out c.write_one.new.out c.loop-instr.invariant.front
          (first_put (written_instr look b (label_by d.depths.items d.height) i.0) i.1 c.loop-instr.out c.write_one.new.out c.in-Ok.ensures);
    }

pub loop-instr-init : goal.loop-instr-init
loop-instr-init c =
    let b = c.args.seqs.now in
    let d = c.args.depths.now in
    record { goes = writes_none (look_of c.args.numbers.now) b d (Inside c.args.place) c.args.out.now; tested = skips_none b d (Inside c.args.place); front = first_itself c.args.out.now }

pub returns-in_default-clause-front : goal.returns-in_default-clause-front
returns-in_default-clause-front c = first_itself c.args.out.now

pub returns-in-Err-clause-front : goal.returns-in-Err-clause-front
returns-in-Err-clause-front c = first_on c.args.out.now c.loop-instr.out c.write_one.new.out c.loop-instr.invariant.front (first_same c.loop-instr.out c.write_one.new.out c.in-Err.ensures.1)

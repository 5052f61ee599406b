use Rattle.std.proofs.Common.{ap, refl, sym, [], ◌∷◌, ◌++◌, arith}
use Rattle.walrus_body_text.specs.declared.todo.Todo.TheVariants.{Inside}
use Rattle.walrus_body_text.specs.walrus_tree.Text.{operators}
use Rattle.walrus_body_text.specs.walrus_tree.Trees.{IsTree}
use Rattle.walrus_body_text.specs.Doing.{left}
use Rattle.walrus_body_text.specs.Walking.{state}
use Rattle.walrus_body_writer.specs.Numbers.{look_of}
use Rattle.walrus_body_writer.specs.Refusals.{LeavesOff}
use Rattle.walrus_body_text.proofs.Steps.{passed, starts}
use Rattle.walrus_body_writer.proofs.Steps.{refuses, writes_on}
use Rattle.walrus_body_writer.proofs.Fronts.{first_itself, first_on}
use Rattle.walrus_body_writer.proofs.Outs.{wrote_none}
use Rattle.walrus_body_writer.proofs.Runs.{if_memory, open_goes}
use Rattle.walrus_body_writer.proofs.Refused.{wants}
use Rattle.walrus_body_text.proofs.Tests.{met_is, met_none, met_some, place_is, place_none, place_on, place_some, test_begins, test_begins_none, test_goes, test_starts, test_strays}
use Rattle.walrus_body_writer.proofs.emit.write_tree.Goals as goal

pub loop-top-init : goal.loop-top-init
loop-top-init c =
    let b = c.args.seqs.now in
    let entry = c.args.entry in
    let new = c.in_ok-depths.ensures in
    record {
      tested = test_starts b entry c.new-todo.result c.in_ok-depths.depths c.new-todo.ensures new.fresh new.height;
      goes = λ tree. record {
        good = starts b entry c.new-todo.result c.in_ok-depths.depths (c.trees_are_nested.ensures b entry tree) (c.trees_are_sound.ensures.labels b entry tree) c.new-todo.ensures new.height new.sized;
        front = [];
        parts = sym (ap (left b []) c.new-todo.ensures);
        wrote = wrote_none (look_of c.args.numbers.now) b c.args.out.now;
      };
      front = first_itself c.args.out.now;
    }

pub loop-top-preserved : goal.loop-top-preserved
loop-top-preserved c =
    let look = look_of c.args.numbers.now in
    let b = c.args.seqs.now in
    let entry = c.args.entry in
    let all = operators b entry in
    let first = c.args.out.now in
    let ts = c.pop.new.self in
    let top = c.in-Some.top in
    let place = c.in-Some-2.place in
    let d = c.loop-top.depths in
    let e = c.begin.new.depths in
    let next = c.in-Ok.next in
    let met = c.in-Some-3.met in
    let new = state c.advance.new.todo c.advance.new.depths in
    let plain = c.text_is_plain.ensures.plain in
    let i = c.loop-top.invariant in
    let some = c.in-Some-2.is in
    let is = place_is _ place _ some c.in_ok-place.ensures.place in
    let high = place_on _ place _ some c.in_ok-place.ensures.height in
    let begun = test_begins b entry c.loop-top.todo ts top d c.in-Some.ensures.items i.tested place e is (place_some _ place _ some c.in_ok-place.ensures.tested) (place_on _ place _ some c.in_ok-place.ensures.marks) high in
    record {
      tested =
          (test_goes b entry (ts ++ Inside place ∷ []) ts (Inside place) (Inside next) e refl begun.tested c.in-Ok.ensures.tested met new
          (met_some _ met _ c.in-Some-3.is c.in_ok-met.ensures.tested) (met_is _ met _ c.in-Some-3.is c.in_ok-met.ensures.advanced)).tested;
      goes = λ tree.
          let r =
          c.in-Ok.ensures.on plain all first ts
          (open_goes look b all first plain c.loop-top.todo ts top place d e c.loop-top.out c.in-Some.ensures.items is (place_on _ place _ some c.in_ok-place.ensures.depths) high (i.goes tree)) in
          let h = passed b plain (ts ++ Inside next ∷ []) ts (Inside next) e met new refl r.good (met_is _ met _ c.in-Some-3.is c.in_ok-met.ensures.advanced) in
          writes_on look b all first r.front (left b [] (ts ++ Inside next ∷ [])) new c.write_plain.new.out c.write_met.new.out r.parts r.wrote met h (c.in-Ok-write_met.ensures.written c.advance.new.todo);
      front = first_on first c.write_plain.new.out c.write_met.new.out (first_on first c.loop-top.out c.write_plain.new.out i.front c.in-Ok.ensures.front) c.in-Ok-write_met.ensures.front;
    }

pub loop-top-smaller : goal.loop-top-smaller
loop-top-smaller c =
    let b = c.args.seqs.now in
    let entry = c.args.entry in
    let ts = c.pop.new.self in
    let top = c.in-Some.top in
    let place = c.in-Some-2.place in
    let d = c.loop-top.depths in
    let e = c.begin.new.depths in
    let next = c.in-Ok.next in
    let met = c.in-Some-3.met in
    let new = state c.advance.new.todo c.advance.new.depths in
    let some = c.in-Some-2.is in
    let begun =
    test_begins b entry c.loop-top.todo ts top d c.in-Some.ensures.items c.loop-top.invariant.tested place e (place_is _ place _ some c.in_ok-place.ensures.place) (place_some _ place _ some c.in_ok-place.ensures.tested)
    (place_on _ place _ some c.in_ok-place.ensures.marks) (place_on _ place _ some c.in_ok-place.ensures.height) in
    let before = begun.less in
    let fewer =
    (test_goes b entry (ts ++ Inside place ∷ []) ts (Inside place) (Inside next) e refl begun.tested c.in-Ok.ensures.tested met new
    (met_some _ met _ c.in-Some-3.is c.in_ok-met.ensures.tested) (met_is _ met _ c.in-Some-3.is c.in_ok-met.ensures.advanced)).less in
    omega (arith, before, fewer)

pub returns-in_err-place-clause-left : goal.returns-in_err-place-clause-left
returns-in_err-place-clause-left c =
    let look = look_of c.args.numbers.now in
    let b = c.args.seqs.now in
    let entry = c.args.entry in
    let all = operators b entry in
    let first = c.args.out.now in
    if_memory c.from_residual-in_err-place.result (λ e. IsTree b entry → LeavesOff look b all first e c.loop-top.out)
    (λ tree.
    let i = c.loop-top.invariant.goes tree in
    wants look b all i.front (left b [] c.loop-top.todo) first c.loop-top.out i.parts i.wrote) c.from_residual-in_err-place.ensures

pub returns-in-Err-clause-left : goal.returns-in-Err-clause-left
returns-in-Err-clause-left c = λ tree.
    let look = look_of c.args.numbers.now in
    let b = c.args.seqs.now in
    let all = operators b c.args.entry in
    let first = c.args.out.now in
    let ts = c.pop.new.self in
    let place = c.in-Some-2.place in
    let some = c.in-Some-2.is in
    let plain = c.text_is_plain.ensures.plain in
    c.in-Err.ensures.off plain all first ts
    (open_goes look b all first plain c.loop-top.todo ts c.in-Some.top place c.loop-top.depths c.begin.new.depths c.loop-top.out c.in-Some.ensures.items (place_is _ place _ some c.in_ok-place.ensures.place)
    (place_on _ place _ some c.in_ok-place.ensures.depths) (place_on _ place _ some c.in_ok-place.ensures.height) (c.loop-top.invariant.goes tree))

pub returns-in-Err-write_met-clause-left : goal.returns-in-Err-write_met-clause-left
returns-in-Err-write_met-clause-left c = λ tree.
    let look = look_of c.args.numbers.now in
    let b = c.args.seqs.now in
    let all = operators b c.args.entry in
    let first = c.args.out.now in
    let ts = c.pop.new.self in
    let place = c.in-Some-2.place in
    let some = c.in-Some-2.is in
    let e = c.begin.new.depths in
    let next = c.in-Ok.next in
    let met = c.in-Some-3.met in
    let new = state c.advance.new.todo c.advance.new.depths in
    let plain = c.text_is_plain.ensures.plain in
    let r =
    c.in-Ok.ensures.on plain all first ts
    (open_goes look b all first plain c.loop-top.todo ts c.in-Some.top place c.loop-top.depths e c.loop-top.out c.in-Some.ensures.items (place_is _ place _ some c.in_ok-place.ensures.place)
    (place_on _ place _ some c.in_ok-place.ensures.depths) (place_on _ place _ some c.in_ok-place.ensures.height) (c.loop-top.invariant.goes tree)) in
    let h = passed b plain (ts ++ Inside next ∷ []) ts (Inside next) e met new refl r.good (met_is _ met _ c.in-Some-3.is c.in_ok-met.ensures.advanced) in
    refuses look b all first r.front (left b [] (ts ++ Inside next ∷ [])) new c.write_plain.new.out c.write_met.new.out r.parts r.wrote met c.in-Err-write_met.error h (c.in-Err-write_met.ensures.written c.advance.new.todo)

pub returns-in_err-met-clause-left : goal.returns-in_err-met-clause-left
returns-in_err-met-clause-left c =
    let look = look_of c.args.numbers.now in
    let b = c.args.seqs.now in
    let entry = c.args.entry in
    let all = operators b entry in
    let first = c.args.out.now in
    let ts = c.pop.new.self in
    let place = c.in-Some-2.place in
    let some = c.in-Some-2.is in
    let plain = c.text_is_plain.ensures.plain in
    if_memory c.from_residual-in_err-met.result (λ e. IsTree b entry → LeavesOff look b all first e c.write_plain.new.out)
    (λ tree.
    let i =
    c.in-Ok.ensures.on plain all first ts
    (open_goes look b all first plain c.loop-top.todo ts c.in-Some.top place c.loop-top.depths c.begin.new.depths c.loop-top.out c.in-Some.ensures.items (place_is _ place _ some c.in_ok-place.ensures.place)
    (place_on _ place _ some c.in_ok-place.ensures.depths) (place_on _ place _ some c.in_ok-place.ensures.height) (c.loop-top.invariant.goes tree)) in
    wants look b all i.front (left b [] (ts ++ Inside c.in-Ok.next ∷ [])) first c.write_plain.new.out i.parts i.wrote) c.from_residual-in_err-met.ensures

pub returns-in_default-2-clause-tree : goal.returns-in_default-2-clause-tree
returns-in_default-2-clause-tree c =
    test_begins_none c.args.seqs.now c.args.entry c.loop-top.todo c.pop.new.self c.in-Some.top c.loop-top.depths c.in-Some.ensures.items c.loop-top.invariant.tested
    (place_none _ _ c.in_default-2.is c.in_ok-place.ensures.tested)

pub returns-in_default-3-clause-tree : goal.returns-in_default-3-clause-tree
returns-in_default-3-clause-tree c =
    let b = c.args.seqs.now in
    let entry = c.args.entry in
    let ts = c.pop.new.self in
    let place = c.in-Some-2.place in
    let e = c.begin.new.depths in
    let some = c.in-Some-2.is in
    let begun =
    test_begins b entry c.loop-top.todo ts c.in-Some.top c.loop-top.depths c.in-Some.ensures.items c.loop-top.invariant.tested place e (place_is _ place _ some c.in_ok-place.ensures.place)
    (place_some _ place _ some c.in_ok-place.ensures.tested) (place_on _ place _ some c.in_ok-place.ensures.marks) (place_on _ place _ some c.in_ok-place.ensures.height) in
    test_strays b entry (ts ++ Inside place ∷ []) ts (Inside place) (Inside c.in-Ok.next) e refl begun.tested c.in-Ok.ensures.tested (met_none _ _ c.in_default-3.is c.in_ok-met.ensures.tested)

pub returns-in_err-depths-clause-front : goal.returns-in_err-depths-clause-front
returns-in_err-depths-clause-front c = first_itself c.args.out.now

pub returns-in-Err-clause-front : goal.returns-in-Err-clause-front
returns-in-Err-clause-front c = first_on c.args.out.now c.loop-top.out c.write_plain.new.out c.loop-top.invariant.front c.in-Err.ensures.front

pub returns-in_err-met-clause-front : goal.returns-in_err-met-clause-front
returns-in_err-met-clause-front c = first_on c.args.out.now c.loop-top.out c.write_plain.new.out c.loop-top.invariant.front c.in-Ok.ensures.front

pub returns-in_default-3-clause-front : goal.returns-in_default-3-clause-front
returns-in_default-3-clause-front c = first_on c.args.out.now c.loop-top.out c.write_plain.new.out c.loop-top.invariant.front c.in-Ok.ensures.front

pub returns-in-Err-write_met-clause-front : goal.returns-in-Err-write_met-clause-front
returns-in-Err-write_met-clause-front c =
    first_on c.args.out.now c.write_plain.new.out c.write_met.new.out (first_on c.args.out.now c.loop-top.out c.write_plain.new.out c.loop-top.invariant.front c.in-Ok.ensures.front)
    c.in-Err-write_met.ensures.front

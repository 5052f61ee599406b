use Rattle.std.proofs.Common.{ap, refl, sym, [], ◌∷◌, ◌++◌, arith}
use Rattle.walrus_tree.specs.Text.{operators}
use Rattle.walrus_body_text.specs.declared.todo.Todo.TheVariants.{Inside}
use Rattle.walrus_body_text.specs.Doing.{left}
use Rattle.walrus_body_text.specs.Walking.{state}
use Rattle.walrus_tree.specs.Trees.{IsTree}
use Rattle.walrus_body_text.proofs.Steps.{passed, starts}
use Rattle.walrus_body_text.proofs.Tests.{met_is, met_none, met_some, place_is, place_none, place_on, place_some, test_begins, test_begins_none, test_goes, test_starts, test_strays}
use Rattle.walrus_body_text.specs.Visiting.{ToldPart}
use Rattle.walrus_body_text.proofs.Folds.{tells_on}
use Rattle.walrus_body_text.proofs.Runs.{on_err, open_tells, told_part, told_same}
use Rattle.walrus_body_text.proofs.visit.visit_tree.Goals as goal

pub loop-top-init : goal.loop-top-init
loop-top-init g c =
    let b = c.args.seqs.now in
    let entry = c.args.entry in
    let new = c.in_ok-depths.ensures in
    record {
      tested = test_starts b entry c.new-todo.result c.in_ok-depths.depths c.new-todo.ensures new.fresh new.height;
      tells = λ tree. record {
        good = starts b entry c.new-todo.result c.in_ok-depths.depths (c.trees_are_nested.ensures b entry tree) (c.trees_are_sound.ensures.labels b entry tree) c.new-todo.ensures new.height new.sized;
        front = [];
        parts = sym (ap (left b []) c.new-todo.ensures);
        told = refl;
      };
    }

pub loop-top-preserved : goal.loop-top-preserved
loop-top-preserved g c =
    let step = g.V.TextVisitor.step in
    let b = c.args.seqs.now in
    let entry = c.args.entry in
    let all = operators b entry in
    let first = c.args.visitor.now in
    let ts = c.pop.new.self in
    let top = c.in-Some.top in
    let place = c.in-Some-2.place in
    let d = c.loop-top.depths in
    let e = c.begin.new.depths in
    let next = c.in_ok-next.next in
    let met = c.in-Some-3.met in
    let new = state c.advance.new.todo c.advance.new.depths in
    let plain = c.text_is_plain.ensures.plain in
    let i = c.loop-top.invariant in
    let some = c.in-Some-2.is in
    let is = place_is _ place _ some c.in_ok-place.ensures.place in
    let high = place_on _ place _ some c.in_ok-place.ensures.height in
    let begun = test_begins b entry c.loop-top.todo ts top d c.in-Some.ensures.items i.tested place e is (place_some _ place _ some c.in_ok-place.ensures.tested) (place_on _ place _ some c.in_ok-place.ensures.marks) high in
    record {
      tested =
          (test_goes b entry (ts ++ Inside place ∷ []) ts (Inside place) (Inside next) e refl begun.tested c.in_ok-next.ensures.tested met new
          (met_some _ met _ c.in-Some-3.is c.in_ok-met.ensures.tested) (met_is _ met _ c.in-Some-3.is c.in_ok-met.ensures.advanced)).tested;
      tells = λ tree.
          let r =
          c.in_ok-next.ensures.told plain all first ts e
          (open_tells step b all first plain c.loop-top.todo ts top place d e c.loop-top.visitor c.in-Some.ensures.items is (place_on _ place _ some c.in_ok-place.ensures.depths) high (i.tells tree)) in
          let h = passed b plain (ts ++ Inside next ∷ []) ts (Inside next) e met new refl r.good (met_is _ met _ c.in-Some-3.is c.in_ok-met.ensures.advanced) in
          tells_on step b all first r.front (left b [] (ts ++ Inside next ∷ [])) new c.tell_plain.new.visitor c.tell_met.new.visitor r.parts r.told met h c.in_ok-tell_met.ensures.told;
    }

pub loop-top-smaller : goal.loop-top-smaller
loop-top-smaller g c =
    let b = c.args.seqs.now in
    let entry = c.args.entry in
    let ts = c.pop.new.self in
    let top = c.in-Some.top in
    let place = c.in-Some-2.place in
    let d = c.loop-top.depths in
    let e = c.begin.new.depths in
    let next = c.in_ok-next.next in
    let met = c.in-Some-3.met in
    let new = state c.advance.new.todo c.advance.new.depths in
    let some = c.in-Some-2.is in
    let begun =
    test_begins b entry c.loop-top.todo ts top d c.in-Some.ensures.items c.loop-top.invariant.tested place e (place_is _ place _ some c.in_ok-place.ensures.place) (place_some _ place _ some c.in_ok-place.ensures.tested)
    (place_on _ place _ some c.in_ok-place.ensures.marks) (place_on _ place _ some c.in_ok-place.ensures.height) in
    let before = begun.less in
    let fewer =
    (test_goes b entry (ts ++ Inside place ∷ []) ts (Inside place) (Inside next) e refl begun.tested c.in_ok-next.ensures.tested met new
    (met_some _ met _ c.in-Some-3.is c.in_ok-met.ensures.tested) (met_is _ met _ c.in-Some-3.is c.in_ok-met.ensures.advanced)).less in
    omega (arith, before, fewer)

pub returns-in_err-place-clause-left : goal.returns-in_err-place-clause-left
returns-in_err-place-clause-left g c =
    let step = g.V.TextVisitor.step in
    let same = g.V.TextVisitor.same in
    let b = c.args.seqs.now in
    let all = operators b c.args.entry in
    let first = c.args.visitor.now in
    on_err c.from_residual-in_err-place.result (IsTree b c.args.entry → ToldPart step same all first c.loop-top.visitor)
    (λ tree. told_part step same b all first (state c.loop-top.todo c.loop-top.depths) c.loop-top.visitor (c.loop-top.invariant.tells tree))

pub returns-in_err-next-clause-left : goal.returns-in_err-next-clause-left
returns-in_err-next-clause-left g c =
    let step = g.V.TextVisitor.step in
    let same = g.V.TextVisitor.same in
    let b = c.args.seqs.now in
    let all = operators b c.args.entry in
    let first = c.args.visitor.now in
    let ts = c.pop.new.self in
    let place = c.in-Some-2.place in
    let e = c.begin.new.depths in
    let plain = c.text_is_plain.ensures.plain in
    let some = c.in-Some-2.is in
    on_err c.from_residual-in_err-next.result (IsTree b c.args.entry → ToldPart step same all first c.tell_plain.new.visitor)
    (λ tree. c.in_err-next.ensures.refused plain all first ts e
    (open_tells step b all first plain c.loop-top.todo ts c.in-Some.top place c.loop-top.depths e c.loop-top.visitor c.in-Some.ensures.items (place_is _ place _ some c.in_ok-place.ensures.place)
    (place_on _ place _ some c.in_ok-place.ensures.depths) (place_on _ place _ some c.in_ok-place.ensures.height) (c.loop-top.invariant.tells tree)))

pub returns-in_err-met-clause-left : goal.returns-in_err-met-clause-left
returns-in_err-met-clause-left g c =
    let step = g.V.TextVisitor.step in
    let same = g.V.TextVisitor.same in
    let b = c.args.seqs.now in
    let all = operators b c.args.entry in
    let first = c.args.visitor.now in
    let ts = c.pop.new.self in
    let place = c.in-Some-2.place in
    let e = c.begin.new.depths in
    let plain = c.text_is_plain.ensures.plain in
    let some = c.in-Some-2.is in
    on_err c.from_residual-in_err-met.result (IsTree b c.args.entry → ToldPart step same all first c.tell_plain.new.visitor)
    (λ tree. told_part step same b all first (state (ts ++ Inside c.in_ok-next.next ∷ []) e) c.tell_plain.new.visitor
    (c.in_ok-next.ensures.told plain all first ts e
    (open_tells step b all first plain c.loop-top.todo ts c.in-Some.top place c.loop-top.depths e c.loop-top.visitor c.in-Some.ensures.items (place_is _ place _ some c.in_ok-place.ensures.place)
    (place_on _ place _ some c.in_ok-place.ensures.depths) (place_on _ place _ some c.in_ok-place.ensures.height) (c.loop-top.invariant.tells tree))))

pub returns-in_err-tell_met-clause-left : goal.returns-in_err-tell_met-clause-left
returns-in_err-tell_met-clause-left g c =
    let step = g.V.TextVisitor.step in
    let same = g.V.TextVisitor.same in
    let b = c.args.seqs.now in
    let all = operators b c.args.entry in
    let first = c.args.visitor.now in
    let ts = c.pop.new.self in
    let place = c.in-Some-2.place in
    let e = c.begin.new.depths in
    let plain = c.text_is_plain.ensures.plain in
    let some = c.in-Some-2.is in
    on_err c.from_residual-in_err-tell_met.result (IsTree b c.args.entry → ToldPart step same all first c.tell_met.new.visitor)
    (λ tree. told_same step same b all first (state (ts ++ Inside c.in_ok-next.next ∷ []) e) c.tell_plain.new.visitor c.tell_met.new.visitor
    (c.in_ok-next.ensures.told plain all first ts e
    (open_tells step b all first plain c.loop-top.todo ts c.in-Some.top place c.loop-top.depths e c.loop-top.visitor c.in-Some.ensures.items (place_is _ place _ some c.in_ok-place.ensures.place)
    (place_on _ place _ some c.in_ok-place.ensures.depths) (place_on _ place _ some c.in_ok-place.ensures.height) (c.loop-top.invariant.tells tree)))
    c.in_err-tell_met.ensures.refused)

pub returns-in_default-2-clause-tree : goal.returns-in_default-2-clause-tree
returns-in_default-2-clause-tree g c =
    test_begins_none c.args.seqs.now c.args.entry c.loop-top.todo c.pop.new.self c.in-Some.top c.loop-top.depths c.in-Some.ensures.items c.loop-top.invariant.tested
    (place_none _ _ c.in_default-2.is c.in_ok-place.ensures.tested)

pub returns-in_default-3-clause-tree : goal.returns-in_default-3-clause-tree
returns-in_default-3-clause-tree g c =
    let b = c.args.seqs.now in
    let entry = c.args.entry in
    let ts = c.pop.new.self in
    let place = c.in-Some-2.place in
    let e = c.begin.new.depths in
    let some = c.in-Some-2.is in
    let begun =
    test_begins b entry c.loop-top.todo ts c.in-Some.top c.loop-top.depths c.in-Some.ensures.items c.loop-top.invariant.tested place e (place_is _ place _ some c.in_ok-place.ensures.place)
    (place_some _ place _ some c.in_ok-place.ensures.tested) (place_on _ place _ some c.in_ok-place.ensures.marks) (place_on _ place _ some c.in_ok-place.ensures.height) in
    test_strays b entry (ts ++ Inside place ∷ []) ts (Inside place) (Inside c.in_ok-next.next) e refl begun.tested c.in_ok-next.ensures.tested (met_none _ _ c.in_default-3.is c.in_ok-met.ensures.tested)

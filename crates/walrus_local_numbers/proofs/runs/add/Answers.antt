use Rattle.std.proofs.Common.{[], ◌∷◌, ◌∙◌, sym, arith}
use Rattle.walrus_local_numbers.proofs.Orders.{tests_are}
use Rattle.walrus_local_numbers.proofs.Counting.{begins, grows_by, when_ok}
use Rattle.walrus_local_numbers.proofs.runs.add.Goals as goal

pub returns-then-eq : goal.returns-then-eq
returns-then-eq c =
    let more = c.in-Some-checked_add.ensures.1 in
    when_ok c.extend_from_slice-then-eq.result c.extend_from_slice-then-eq.new.self.items c.pop.new.self.items ((c.in-Some-checked_add.more, c.in-Some.last) ∷ []) _ c.extend_from_slice-then-eq.ensures.items
    (grows_by c.args.ty c.args.runs.now.items c.pop.new.self.items c.in-Some.count c.in-Some-checked_add.more c.in-Some.last c.in-Some.ensures.items (sym (tests_are c.in-Some.last c.args.ty) ∙ sym c.eq.ensures ∙ c.if-eq.true) (omega (arith, more)))

pub returns : goal.returns
returns c =
    when_ok c.extend_from_slice-2.result c.extend_from_slice-2.new.self.items c.pop.new.self.items ((c.in-Some.count, c.in-Some.last) ∷ (1, c.args.ty) ∷ []) _ c.extend_from_slice-2.ensures.items
    (begins c.args.ty c.args.runs.now.items c.pop.new.self.items (c.in-Some.count, c.in-Some.last) c.in-Some.ensures.items (sym (tests_are c.in-Some.last c.args.ty) ∙ sym c.eq.ensures ∙ c.if-eq.false))

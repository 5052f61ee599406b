use Rattle.std.proofs.Common.{sym, subst, arith, ◌+◌}
use Rattle.walrus_export_reader.specs.Repeats.{names_of}
use Rattle.walrus_export_reader.proofs.Sorted.{Looked, none_looked, looks_on, all_looked, are_sorted}
use Rattle.walrus_export_reader.proofs.repeats.first_repeat.Goals as goal

pub loop-i-init : goal.loop-i-init
loop-i-init c = none_looked c.args.exports.now c.sort_unstable.new.self.items c.args.from

pub loop-i-preserved : goal.loop-i-preserved
loop-i-preserved c =
    let ready = are_sorted c.args.exports.now c.in_ok-keys.keys.items c.sort_unstable.new.self.items c.in_ok-keys.ensures.numbers c.in_ok-keys.ensures.each c.sort_unstable.ensures.permutation c.sort_unstable.ensures.sorted in
    let inside = c.loop-i-test.true in
    let size = c.len-i-end.ensures in
    let whole = c.sort_unstable.new.self.ok.0 in
    subst (λ n. Looked (names_of c.args.exports.now) c.sort_unstable.new.self.items c.args.from n (c.loop-i.i + 1)) (sym c.less-first.ensures)
    (looks_on (names_of c.args.exports.now) c.sort_unstable.new.self.items c.args.from c.loop-i.first c.loop-i.i c.index.result.now c.index-in-loop-i.result.now ready c.loop-i.invariant
    c.loop-i.auto.i (omega (arith, inside, size, whole)) c.index.ensures c.index-in-loop-i.ensures)

pub returns : goal.returns
returns c =
    let ready = are_sorted c.args.exports.now c.in_ok-keys.keys.items c.sort_unstable.new.self.items c.in_ok-keys.ensures.numbers c.in_ok-keys.ensures.each c.sort_unstable.ensures.permutation c.sort_unstable.ensures.sorted in
    let past = c.loop-i-test.false in
    let size = c.len-i-end.ensures in
    let whole = c.sort_unstable.new.self.ok.0 in
    all_looked (names_of c.args.exports.now) c.sort_unstable.new.self.items c.args.from c.loop-i.first c.loop-i.i ready c.loop-i.invariant (omega (arith, past, size, whole))

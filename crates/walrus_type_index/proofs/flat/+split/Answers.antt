use Rattle.std.proofs.Common.{◌≡◌, ◌∙◌, sym, ap, arith, ◌-◌, true, false}
use Rattle.walrus_type_index.specs.Directory.{is_later}
use Rattle.walrus_type_index.specs.Flat.{slots, link_of, hashed_of}
use Rattle.walrus_type_index.proofs.FlatLemmas.{hashed-is}
use Rattle.walrus_type_index.proofs.FlatSplits.{splits_on, splits_off}
use Rattle.walrus_type_index.proofs.flat.+split.Goals as goal

pub returns-then-is_later : goal.returns-then-is_later
returns-then-is_later t c =
    let n = link_of c.in-Some.node in
    let late = is_later c.args.shift c.args.place in
    let e = ap late (hashed-is c.hashed.result c.args.top n c.hashed.ensures.hash c.hashed.ensures.id) in
    let here : late (hashed_of c.args.top n) ≡ true = sym e ∙ sym c.is_later.ensures ∙ c.if-is_later.true in
    splits_on late (slots c.args.nodes.now) (slots c.split-first.new.nodes) (slots c.split-third.new.nodes) (slots c.join-early.new.nodes) (slots c.between-late.new.nodes) c.args.top (c.args.fuel - 1)
    c.args.fuel n c.split-first.result.0 c.split-first.result.1 c.split-third.result.0 c.split-third.result.1 c.join-early.result c.between-late.result
    (sym c.in-Some.ensures) (omega (arith, c.if-fuel-eq0.false)) here c.split-first.ensures c.split-third.ensures c.join-early.ensures c.between-late.ensures

pub returns : goal.returns
returns t c =
    let n = link_of c.in-Some.node in
    let late = is_later c.args.shift c.args.place in
    let e = ap late (hashed-is c.hashed.result c.args.top n c.hashed.ensures.hash c.hashed.ensures.id) in
    let here : late (hashed_of c.args.top n) ≡ false = sym e ∙ sym c.is_later.ensures ∙ c.if-is_later.false in
    splits_off late (slots c.args.nodes.now) (slots c.split-first.new.nodes) (slots c.split-third.new.nodes) (slots c.between-early.new.nodes) (slots c.join-late.new.nodes) c.args.top (c.args.fuel - 1)
    c.args.fuel n c.split-first.result.0 c.split-first.result.1 c.split-third.result.0 c.split-third.result.1 c.between-early.result c.join-late.result
    (sym c.in-Some.ensures) (omega (arith, c.if-fuel-eq0.false)) here c.split-first.ensures c.split-third.ensures c.between-early.ensures c.join-late.ensures

use Rattle.std.proofs.Common.{◌≡◌, ◌∙◌, sym, ap, arith, ◌-◌, true, false}
use Rattle.walrus_type_index.specs.Places.{kinds_in, hashed_cmp, is_before}
use Rattle.walrus_type_index.specs.Flat.{slots, link_of, hashed_of}
use Rattle.walrus_type_index.proofs.FlatLemmas.{hashed-is}
use Rattle.walrus_type_index.proofs.FlatEdits.{puts_none, puts_left, puts_right}
use Rattle.walrus_type_index.proofs.flat.+put.Goals as goal

pub returns-in_default : goal.returns-in_default
returns-in_default t c = rw c.begin.ensures.id
    (puts_none (kinds_in c.args.types.now.slots) (slots c.args.nodes.now) (slots c.begin.new.nodes) c.args.top c.args.new.now c.args.fuel (sym c.in_default.ensures) c.begin.ensures.begins)

pub returns-then-is_lt : goal.returns-then-is_lt
returns-then-is_lt t c =
    let ks = kinds_in c.args.types.now.slots in
    let n = link_of c.in-Some.node in
    let here = hashed_of c.args.top n in
    let e : c.compare_hashed.result ≡ hashed_cmp ks c.args.new.now here =
    c.compare_hashed.ensures ∙ ap (hashed_cmp ks c.args.new.now) (hashed-is c.hashed.result c.args.top n c.hashed.ensures.hash c.hashed.ensures.id) in
    let hit : is_before ks c.args.new.now here ≡ true = grind (arith, e, c.is_lt.ensures, c.if-is_lt.true) in
    puts_left ks (slots c.args.nodes.now) (slots c.put-side.new.nodes) (slots c.settle.new.nodes) c.args.top (c.args.fuel - 1) c.args.fuel c.args.new.now n
    c.put-side.result c.settle.result (sym c.in-Some.ensures) hit (omega (arith, c.if-fuel-eq0.false)) c.put-side.ensures c.settle.ensures

pub returns : goal.returns
returns t c =
    let ks = kinds_in c.args.types.now.slots in
    let n = link_of c.in-Some.node in
    let here = hashed_of c.args.top n in
    let e : c.compare_hashed.result ≡ hashed_cmp ks c.args.new.now here =
    c.compare_hashed.ensures ∙ ap (hashed_cmp ks c.args.new.now) (hashed-is c.hashed.result c.args.top n c.hashed.ensures.hash c.hashed.ensures.id) in
    let past : is_before ks c.args.new.now here ≡ false = grind (arith, e, c.is_lt.ensures, c.if-is_lt.false) in
    puts_right ks (slots c.args.nodes.now) (slots c.put-side-2.new.nodes) (slots c.settle-2.new.nodes) c.args.top (c.args.fuel - 1) c.args.fuel c.args.new.now n
    c.put-side-2.result c.settle-2.result (sym c.in-Some.ensures) past (omega (arith, c.if-fuel-eq0.false)) c.put-side-2.ensures c.settle-2.ensures

use Rattle.std.proofs.Common.{◌≡◌, sym, ap, arith, ◌-◌, true, false, not, Bool}
use Rattle.walrus_type_index.specs.Ordered.{is_marked}
use Rattle.walrus_type_index.specs.Places.{Hashed}
use Rattle.walrus_type_index.specs.Flat.{slots, link_of}
use Rattle.walrus_type_index.proofs.FlatFilters.{filters_on, filters_off}
use Rattle.walrus_type_index.proofs.flat.+unmarked.Goals as goal

pub returns-then-is_marked : goal.returns-then-is_marked
returns-then-is_marked t c =
    let n = link_of c.in-Some.node in
    let stays : Hashed → Bool = λ x. not (is_marked c.args.marks.now x.id) in
    let here : is_marked c.args.marks.now c.args.top ≡ true = grind (arith, c.is_marked.ensures, c.from_index.ensures, c.if-is_marked.true) in
    filters_off stays (slots c.args.nodes.now) (slots c.unmarked-before.new.nodes) (slots c.unmarked-behind.new.nodes) (slots c.join.new.nodes) c.args.top (c.args.fuel - 1) c.args.fuel n
    c.unmarked-before.result c.unmarked-behind.result c.join.result (sym c.in-Some.ensures) (omega (arith, c.if-fuel-eq0.false)) (ap not here) c.unmarked-before.ensures c.unmarked-behind.ensures c.join.ensures

pub returns : goal.returns
returns t c =
    let n = link_of c.in-Some.node in
    let stays : Hashed → Bool = λ x. not (is_marked c.args.marks.now x.id) in
    let here : is_marked c.args.marks.now c.args.top ≡ false = grind (arith, c.is_marked.ensures, c.from_index.ensures, c.if-is_marked.false) in
    filters_on stays (slots c.args.nodes.now) (slots c.unmarked-before.new.nodes) (slots c.unmarked-behind.new.nodes) (slots c.between.new.nodes) c.args.top (c.args.fuel - 1) c.args.fuel n
    c.unmarked-before.result c.unmarked-behind.result c.between.result (sym c.in-Some.ensures) (omega (arith, c.if-fuel-eq0.false)) (ap not here) c.unmarked-before.ensures c.unmarked-behind.ensures c.between.ensures

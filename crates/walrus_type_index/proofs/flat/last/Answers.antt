use Rattle.std.proofs.Common.{◌≡◌, ◌∙◌, ◌+◌, ◌-◌, length, sym, ap, subst, arith, true, false, Some}
use Rattle.std.specs.Ordering.{is_gt}
use Rattle.walrus_type_index.specs.Places.{Hashed, kinds_in, wanted_cmp}
use Rattle.walrus_type_index.specs.Targets.{target_kind}
use Rattle.walrus_type_index.specs.Flat.{slots, link_of, hashed_of, Finds}
use Rattle.walrus_type_index.proofs.FlatLemmas.{hashed-is}
use Rattle.walrus_type_index.proofs.FlatSearches.{finds_none, finds_spent, finds_left, finds_right}
use Rattle.walrus_type_index.proofs.flat.last.Goals as goal

pub returns-in_default : goal.returns-in_default
returns-in_default c =
    let ks = kinds_in c.args.types.now.slots in
    c.loop-step.invariant c.loop-step.found
    (finds_none ks (slots c.args.nodes.now) c.loop-step.top c.args.hash (target_kind c.args.target) c.args.own c.loop-step.found (length c.args.nodes.now - c.loop-step.step) (sym c.in_default.ensures))

pub loop-step-preserved-then-is_gt : goal.loop-step-preserved-then-is_gt
loop-step-preserved-then-is_gt c result finds =
    let ks = kinds_in c.args.types.now.slots in
    let kind = target_kind c.args.target in
    let at = slots c.args.nodes.now in
    let left = length c.args.nodes.now - c.loop-step.step in
    let n = link_of c.in-Some.node in
    let here = hashed_of c.loop-step.top n in
    let e : c.compare_wanted.result ≡ wanted_cmp ks c.args.hash kind c.args.own here =
    c.compare_wanted.ensures ∙ ap (wanted_cmp ks c.args.hash kind c.args.own) (hashed-is c.hashed.result c.loop-step.top n c.hashed.ensures.hash c.hashed.ensures.id) in
    let past : is_gt (wanted_cmp ks c.args.hash kind c.args.own here) ≡ true = grind (arith, e, c.is_gt.ensures, c.if-is_gt.true) in
    c.loop-step.invariant result
    (finds_left ks at c.loop-step.top c.args.hash kind c.args.own c.loop-step.found (length c.args.nodes.now - (c.loop-step.step + 1)) left n result (sym c.in-Some.ensures) past
    (omega (arith, c.loop-step-test.true)) finds)

pub loop-step-preserved : goal.loop-step-preserved
loop-step-preserved c result finds =
    let ks = kinds_in c.args.types.now.slots in
    let kind = target_kind c.args.target in
    let at = slots c.args.nodes.now in
    let left = length c.args.nodes.now - c.loop-step.step in
    let n = link_of c.in-Some.node in
    let here = hashed_of c.loop-step.top n in
    let e : c.compare_wanted.result ≡ wanted_cmp ks c.args.hash kind c.args.own here =
    c.compare_wanted.ensures ∙ ap (wanted_cmp ks c.args.hash kind c.args.own) (hashed-is c.hashed.result c.loop-step.top n c.hashed.ensures.hash c.hashed.ensures.id) in
    let upto : is_gt (wanted_cmp ks c.args.hash kind c.args.own here) ≡ false = grind (arith, e, c.is_gt.ensures, c.if-is_gt.false) in
    let same = hashed-is c.hashed-in-loop-step.result c.loop-step.top n c.hashed-in-loop-step.ensures.hash c.hashed-in-loop-step.ensures.id in
    let less = length c.args.nodes.now - (c.loop-step.step + 1) in
    let P : Hashed → Type 0 = λ x. Finds ks at n.right c.args.hash kind c.args.own (Some x) less result in
    c.loop-step.invariant result
    (finds_right ks at c.loop-step.top c.args.hash kind c.args.own c.loop-step.found less left n result (sym c.in-Some.ensures) upto
    (omega (arith, c.loop-step-test.true)) (subst P same finds))

pub returns : goal.returns
returns c =
    c.loop-step.invariant c.loop-step.found
    (finds_spent (kinds_in c.args.types.now.slots) (slots c.args.nodes.now) c.loop-step.top c.args.hash (target_kind c.args.target) c.args.own c.loop-step.found
    (length c.args.nodes.now - c.loop-step.step) (omega (arith, c.loop-step-test.false)))

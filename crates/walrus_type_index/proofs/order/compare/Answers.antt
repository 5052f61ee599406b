use Rattle.std.proofs.Common.{◌∙◌, ap, Option, slice_index_or, None}
use Rattle.std.specs.Ordering.{ordering_then, nat_cmp}
use Rattle.walrus_items.specs.walrus_forms.Kinds.{Kind}
use Rattle.walrus_type_index.specs.Places.{place_cmp, place_of, kinds_in}
use Rattle.walrus_type_index.proofs.TreeLemmas.{kind-seen}
use Rattle.walrus_type_index.proofs.order.compare.Goals as goal

pub returns : goal.returns
returns c =
    let slots = c.args.types.now.slots in
    let first = kind-seen c.get-first.result slots c.args.a c.get-first.ensures in
    let second = kind-seen c.get-second.result slots c.args.b c.get-second.ensures in
    c.then.ensures
    ∙ ap (λ o. ordering_then o c.compare_numbers.result) (c.compare_live.ensures
    ∙ ap (λ (k : Option Kind). place_cmp (place_of c.args.a k) (place_of c.args.b (Rattle.std.specs.Option.option_map (λ t. Rattle.walrus_items.specs.Items.kind_of t.now) c.get-second.result))) first
    ∙ ap (λ (k : Option Kind). place_cmp (place_of c.args.a (slice_index_or (kinds_in slots) c.args.a None)) (place_of c.args.b k)) second)
    ∙ ap (ordering_then (place_cmp (place_of c.args.a (slice_index_or (kinds_in slots) c.args.a None)) (place_of c.args.b (slice_index_or (kinds_in slots) c.args.b None)))) c.compare_numbers.ensures

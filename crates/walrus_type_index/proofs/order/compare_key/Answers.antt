use Rattle.std.proofs.Common.{◌∙◌, ap, Option, Some}
use Rattle.walrus_items.specs.walrus_forms.Kinds.{Kind}
use Rattle.walrus_type_index.specs.Places.{place_cmp, place_of}
use Rattle.walrus_type_index.specs.Targets.{target_kind}
use Rattle.walrus_type_index.proofs.TreeLemmas.{kind-seen}
use Rattle.walrus_type_index.proofs.order.compare_key.Goals as goal

pub returns : goal.returns
returns c =
    let slots = c.args.types.now.slots in
    c.compare_found.ensures
    ∙ ap (λ (k : Option Kind). place_cmp (place_of c.args.id k) (Some (target_kind c.args.target), c.args.own))
    (kind-seen c.get-found.result slots c.args.id c.get-found.ensures)

use Rattle.std.proofs.Common.{◌∙◌, sym, ap, subst}
use Rattle.walrus_type_index.specs.Places.{kinds_in, last_of}
use Rattle.walrus_type_index.specs.Targets.{target_kind}
use Rattle.walrus_type_index.specs.Ordered.{Indexed, IsIndex}
use Rattle.walrus_type_index.specs.Directory.{place_of}
use Rattle.walrus_type_index.proofs.DirectoryLemmas.{tree-index, latest-joined}
use Rattle.walrus_type_index.proofs.index.Index.latest_hashed.Goals as goal

pub latest-requires-clause-index : goal.latest-requires-clause-index
latest-requires-clause-index c =
    let i = c.self.inside in
    let ks = kinds_in c.args.types.now.slots in
    tree-index ks i.forest.trees c.place_of-place.result i.forest.last (subst (λ (v : Indexed). IsIndex ks v.ids) (sym c.self.view_is) c.requires.index)

pub returns : goal.returns
returns c =
    let i = c.self.inside in
    let ks = kinds_in c.args.types.now.slots in
    let kind = target_kind c.args.target in
    c.latest.ensures
    ∙ sym (latest-joined ks i.shift kind c.args.own i.forest.trees c.place_of-place.result i.forest.last (c.place_of-place.ensures ∙ ap (place_of i.shift) c.requires.hash)
    (subst (λ (v : Indexed). IsIndex ks v.ids) (sym c.self.view_is) c.requires.index) c.self.invariant.1)
    ∙ ap (λ (v : Indexed). last_of ks kind c.args.own v.ids) c.self.view_is

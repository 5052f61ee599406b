use Rattle.std.proofs.Common.{◌∙◌, refl, sym, ap, subst}
use Rattle.walrus_type_index.specs.Places.{Hashed, kinds_in, hashed_cmp, entered}
use Rattle.walrus_type_index.specs.Ordered.{Indexed, has}
use Rattle.walrus_type_index.specs.Directory.{joined}
use Rattle.walrus_type_index.specs.Flat.{count}
use Rattle.walrus_type_index.proofs.TreeLemmas.{Sorted}
use Rattle.walrus_type_index.proofs.FlatLemmas.{has-out}
use Rattle.walrus_type_index.proofs.DirectoryLemmas.{tree-sorted, put-done}
use Rattle.walrus_type_index.proofs.index.Index.put.Goals as goal

pub put-requires-clause-sorted : goal.put-requires-clause-sorted
put-requires-clause-sorted c =
    let i = c.self.inside in
    let ks = kinds_in c.args.types.now.slots in
    tree-sorted (hashed_cmp ks) i.forest.trees c.place_of-place.result i.forest.last (subst (λ (v : Indexed). Sorted ks v.ids) (sym c.self.view_is) c.requires.sorted)

pub put-requires-clause-out : goal.put-requires-clause-out
put-requires-clause-out c =
    let i = c.self.inside in
    let all = joined i.forest.trees i.forest.last in
    ap (λ (x : Hashed). count x.id all) c.requires.hash ∙ has-out c.args.hashed.id all (ap (λ (v : Indexed). has c.args.hashed.id v.ids) c.self.view_is ∙ c.requires.out)

pub invariant_of-self : goal.invariant_of-self
invariant_of-self c =
    let i = c.self.inside in
    let ks = kinds_in c.args.types.now.slots in (
      c.self.invariant.0,
      (put-done ks i.shift c.args.hashed.id c.args.hashed i.forest.trees c.place_of-place.result i.forest.last _ c.put.new.self.trees c.put.new.self.last
          c.requires.hash c.place_of-place.ensures c.self.invariant.1 (record { trees_are = c.put.ensures.trees; last_is = c.put.ensures.last }) refl).0,
    )

pub returns-clause-ids : goal.returns-clause-ids
returns-clause-ids c =
    let i = c.self.inside in
    let ks = kinds_in c.args.types.now.slots in
    (put-done ks i.shift c.args.hashed.id c.args.hashed i.forest.trees c.place_of-place.result i.forest.last _ c.put.new.self.trees c.put.new.self.last
    c.requires.hash c.place_of-place.ensures c.self.invariant.1 (record { trees_are = c.put.ensures.trees; last_is = c.put.ensures.last }) refl).1
    ∙ ap (λ (v : Indexed). entered ks c.args.hashed.id v.ids) c.self.view_is

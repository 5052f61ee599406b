use Rattle.std.proofs.Common.{◌∙◌, ◌==◌, refl, sym, ap, subst, find, filter, not}
use Rattle.std.specs.Option.{option_map}
use Rattle.walrus_type_index.specs.Places.{Hashed, kinds_in, hashed_cmp}
use Rattle.walrus_type_index.specs.Ordered.{Indexed, IsIndex}
use Rattle.walrus_type_index.proofs.DirectoryLemmas.{tree-sorted, take-done, took-it, took-none}
use Rattle.walrus_type_index.proofs.index.Index.take.Goals as goal

pub take-requires : goal.take-requires
take-requires c =
    let i = c.self.inside in
    let ks = kinds_in c.args.types.now.slots in
    let index = subst (λ (v : Indexed). IsIndex ks v.ids) (sym c.self.view_is) c.requires in
    tree-sorted (hashed_cmp ks) i.forest.trees c.place_of-place.result i.forest.last index.sorted

pub invariant_of-self : goal.invariant_of-self
invariant_of-self c =
    let i = c.self.inside in
    let ks = kinds_in c.args.types.now.slots in
    let index = subst (λ (v : Indexed). IsIndex ks v.ids) (sym c.self.view_is) c.requires in (
      c.self.invariant.0,
      (take-done ks i.shift c.args.id c.hashed-hashed.result i.forest.trees c.place_of-place.result i.forest.last _ c.take.new.self.trees c.take.new.self.last
          c.hashed-hashed.ensures c.place_of-place.ensures index c.self.invariant.1 (record { trees_are = c.take.ensures.trees; last_is = c.take.ensures.last }) refl).0,
    )

pub invariant_of-self-2 : goal.invariant_of-self-2
invariant_of-self-2 c =
    let i = c.self.inside in
    let ks = kinds_in c.args.types.now.slots in
    let index = subst (λ (v : Indexed). IsIndex ks v.ids) (sym c.self.view_is) c.requires in (
      c.self.invariant.0,
      (take-done ks i.shift c.args.id c.hashed-hashed.result i.forest.trees c.place_of-place.result i.forest.last _ c.take.new.self.trees c.take.new.self.last
          c.hashed-hashed.ensures c.place_of-place.ensures index c.self.invariant.1 (record { trees_are = c.take.ensures.trees; last_is = c.take.ensures.last }) refl).0,
    )

pub returns-then-take-clause-rest : goal.returns-then-take-clause-rest
returns-then-take-clause-rest c =
    let i = c.self.inside in
    let ks = kinds_in c.args.types.now.slots in
    let index = subst (λ (v : Indexed). IsIndex ks v.ids) (sym c.self.view_is) c.requires in
    (take-done ks i.shift c.args.id c.hashed-hashed.result i.forest.trees c.place_of-place.result i.forest.last _ c.take.new.self.trees c.take.new.self.last
    c.hashed-hashed.ensures c.place_of-place.ensures index c.self.invariant.1 (record { trees_are = c.take.ensures.trees; last_is = c.take.ensures.last }) refl).1
    ∙ ap (λ (v : Indexed). filter (λ x. not (x.id == c.args.id)) v.ids) c.self.view_is

pub returns-clause-rest : goal.returns-clause-rest
returns-clause-rest c =
    let i = c.self.inside in
    let ks = kinds_in c.args.types.now.slots in
    let index = subst (λ (v : Indexed). IsIndex ks v.ids) (sym c.self.view_is) c.requires in
    (take-done ks i.shift c.args.id c.hashed-hashed.result i.forest.trees c.place_of-place.result i.forest.last _ c.take.new.self.trees c.take.new.self.last
    c.hashed-hashed.ensures c.place_of-place.ensures index c.self.invariant.1 (record { trees_are = c.take.ensures.trees; last_is = c.take.ensures.last }) refl).1
    ∙ ap (λ (v : Indexed). filter (λ x. not (x.id == c.args.id)) v.ids) c.self.view_is

pub returns-then-take-clause-taken : goal.returns-then-take-clause-taken
returns-then-take-clause-taken c =
    let i = c.self.inside in
    let ks = kinds_in c.args.types.now.slots in
    let index = subst (λ (v : Indexed). IsIndex ks v.ids) (sym c.self.view_is) c.requires in
    took-it ks i.shift c.args.id c.hashed-hashed.result i.forest.trees c.place_of-place.result i.forest.last c.hashed-hashed.ensures c.place_of-place.ensures index c.self.invariant.1
    (sym c.if-take.true ∙ c.take.ensures.met)
    ∙ ap (λ (v : Indexed). option_map (λ (x : Hashed). x.id) (find (λ x. x.id == c.args.id) v.ids)) c.self.view_is

pub returns-clause-taken : goal.returns-clause-taken
returns-clause-taken c =
    let i = c.self.inside in
    let ks = kinds_in c.args.types.now.slots in
    let index = subst (λ (v : Indexed). IsIndex ks v.ids) (sym c.self.view_is) c.requires in
    took-none ks i.shift c.args.id c.hashed-hashed.result i.forest.trees c.place_of-place.result i.forest.last c.hashed-hashed.ensures c.place_of-place.ensures index c.self.invariant.1
    (sym c.if-take.false ∙ c.take.ensures.met)
    ∙ ap (λ (v : Indexed). option_map (λ (x : Hashed). x.id) (find (λ x. x.id == c.args.id) v.ids)) c.self.view_is

-- What is met of a type's group.
use Rattle.std.proofs.Common.{◌≡◌, ◌∙◌, ℕ, true, false, Option, Some, None, Contains, sym, ap, subst}
use Rattle.std.specs.List.{fold}
use Rattle.std.proofs.lemmas.Bool.{false≢true}
use Rattle.walrus_items.specs.Items.{Group}
use Rattle.walrus_types.specs.Table.{Table, type_at, group_at, HasMember}
use Rattle.walrus_types.specs.TypeLaws.{AreGrouped}
use Rattle.walrus_marks.specs.Marks.{State, meet}
use Rattle.walrus_marks.specs.Chains.{Meets}
use Rattle.walrus_used.specs.Looks.{LooksInGroup, group_items}
use Rattle.walrus_used.proofs.MeetsLemmas.{meets_none}

module _ (t : Table) (grouped : AreGrouped t) (id : ℕ) where
  same_some : (g h : Group) (o : Option Group) → o ≡ Some g → o ≡ Some h → g ≡ h
  same_some g h o p q = (let both : Some g ≡ Some h = sym p ∙ q in cc)

  -- a type is in one group
  same_group : (g h : Group) → HasMember t id g → HasMember t id h → g ≡ h
  same_group g h a b =
      let place = grouped.one id a.place b.place g h a.live a.listed b.live b.listed in
      same_some g h (group_at t b.place) (subst (λ p. group_at t p ≡ Some g) place a.live) b.live

  pub group_meets : (g : Group) (s u : State) → HasMember t id g → g.explicit ≡ true → u ≡ fold meet s (group_items id g.types) → Meets (LooksInGroup t id) s u
  group_meets g s u has ex met = record {
    items = group_items id g.types;
    are = λ y. (λ c. (g, has, ex, c), λ h. subst (λ (k : Group). Contains (group_items id k.types) y) (same_group h.0 g h.1 has) h.3);
    met = met;
  }

  pub alone_meets : (g : Group) (s u : State) → HasMember t id g → g.explicit ≡ false → u ≡ s → Meets (LooksInGroup t id) s u
  alone_meets g s u has not same = meets_none (LooksInGroup t id) s u (λ y h. false≢true (sym not ∙ sym (ap (λ (k : Group). k.explicit) (same_group h.0 g h.1 has)) ∙ h.2)) same

  pub dead_meets : (s u : State) → type_at t id ≡ None → u ≡ s → Meets (LooksInGroup t id) s u
  dead_meets s u dead same = meets_none (LooksInGroup t id) s u (λ y h. (let live = grouped.live h.1.place h.0 h.1.live id h.1.listed in let no : None ≡ Some live.0 = sym dead ∙ live.1 in cc)) same

-- What is added of a type.
use Rattle.std.proofs.Common.{◌≡◌, ◌∙◌, ◌++◌, ℕ, List, true, false, map, Option, Some, None, Contains, sym, ap, subst}
use Rattle.std.proofs.lemmas.Bool.{false≢true}
use Rattle.wasm_formats.specs.declared.fault.Space.TheVariants as spaces
use Rattle.walrus_items.specs.Items.{Group}
use Rattle.walrus_types.specs.Table.{Table, type_at, group_at, HasMember}
use Rattle.walrus_types.specs.TypeLaws.{AreGrouped}
use Rattle.walrus_roots.specs.declared.item.Item.{Item}
use Rattle.walrus_roots.specs.Items.{item}
use Rattle.walrus_used.specs.walrus_module.Items.{written_type}
use Rattle.walrus_used.specs.walrus_module.Parts.{Module}
use Rattle.walrus_used.specs.walrus_references.References.{IsInGroup, RefersIn, named_by, type_items}
use Rattle.walrus_reasons.specs.Added.{Adds}
use Rattle.walrus_reasons.proofs.AddedLemmas.{adds_list, adds_none, adds_then}

module _ (t : Table) (grouped : AreGrouped t) (id : ℕ) where
  same_some : (g h : Group) (o : Option Group) → o ≡ Some g → o ≡ Some h → g ≡ h
  same_some g h o p q = (let both : Some g ≡ Some h = sym p ∙ q in cc)

  -- a type is in one group
  same_group : (g h : Group) → HasMember t id g → HasMember t id h → g ≡ h
  same_group g h a b =
      let place = grouped.one id a.place b.place g h a.live a.listed b.live b.listed in
      same_some g h (group_at t b.place) (subst (λ p. group_at t p ≡ Some g) place a.live) b.live

  pub group_adds : (g : Group) (a b : List Item) → HasMember t id g → g.explicit ≡ true → b ≡ a ++ map (item spaces.Type) g.types → Adds (IsInGroup t id) a b
  group_adds g a b has ex added = record {
    items = map (item spaces.Type) g.types;
    are = λ y. (λ c. (g, has, ex, c), λ h. subst (λ (k : Group). Contains (map (item spaces.Type) k.types) y) (same_group h.0 g h.1 has) h.3);
    added = added;
  }

  pub alone_adds : (g : Group) (a b : List Item) → HasMember t id g → g.explicit ≡ false → b ≡ a → Adds (IsInGroup t id) a b
  alone_adds g a b has not same = adds_none (IsInGroup t id) a b (λ y h. false≢true (sym not ∙ sym (ap (λ (k : Group). k.explicit) (same_group h.0 g h.1 has)) ∙ h.2)) same

  pub dead_adds : (a b : List Item) → type_at t id ≡ None → b ≡ a → Adds (IsInGroup t id) a b
  dead_adds a b dead same = adds_none (IsInGroup t id) a b (λ y h. (let live = grouped.live h.1.place h.0 h.1.live id h.1.listed in let no : None ≡ Some live.0 = sym dead ∙ live.1 in cc)) same

pub type_adds : (m : Module) (id : ℕ) (a b c : List Item) → b ≡ a ++ named_by type_items (written_type m.types id) → Adds (IsInGroup m.types id) b c → Adds (RefersIn m spaces.Type id) a c
type_adds m id a b c own group =
    adds_then (λ y. Contains (named_by type_items (written_type m.types id)) y) (IsInGroup m.types id) a b c (adds_list (named_by type_items (written_type m.types id)) a b own) group

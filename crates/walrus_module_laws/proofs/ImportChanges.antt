-- An import that has other names: what was linked stays so.
use Rattle.std.proofs.Common.{◌≡◌, ◌∙◌, ℕ, Some, slice_set, sym, ap, inl, inr}
use Rattle.std.proofs.lemmas.Bool.{cases_eq}
use Rattle.walrus_arena.specs.Arena.{Arena, item_at}
use Rattle.walrus_linked.specs.walrus_module_items.declared.import.Import.{Import}
use Rattle.walrus_linked.specs.walrus_module_items.declared.import.ImportKind.{ImportKind}
use Rattle.walrus_linked.specs.walrus_module.Parts.{Module}
use Rattle.walrus_roots.specs.declared.item.Item.{Item}
use Rattle.walrus_linked.specs.walrus_module.Items.{brought}
use Rattle.walrus_linked.specs.Linked.{IsLinked, import_of}
use Rattle.walrus_module_laws.proofs.SlotLemmas.{besides, this}

module _ (m : Module) (xs : Arena Import) (k : ℕ) (old new : Import) (at : item_at m.imports k ≡ Some old) (is : xs.slots ≡ slice_set m.imports.slots k (Some new)) (same : new.kind ≡ old.kind) where
  abbrev n : Module
  n = record m { imports = xs }

  import_at : IsLinked m → (i : ℕ) (imp : Import) → item_at xs i ≡ Some imp → import_of m (brought imp.kind) ≡ Some i
  import_at l i imp h = elim (cases_eq i k) as (λ _. import_of m (brought imp.kind) ≡ Some i) [
    | inl e ↦
        let both : Some new ≡ Some imp = sym (this m.imports.slots xs.slots k old new at is i e) ∙ h in
        let is_new : new ≡ imp = cc in
        let kinds : imp.kind ≡ old.kind = ap (λ (x : Import). x.kind) (sym is_new) ∙ same in
        ap (λ (kind : ImportKind). import_of m (brought kind)) kinds ∙ l.imports i old (ap (item_at m.imports) e ∙ at)
    | inr e ↦ l.imports i imp (sym (besides m.imports.slots xs.slots k old new at is i e) ∙ h)
  ]

  import_stays : (x : Item) (i : ℕ) (imp : Import) → item_at m.imports i ≡ Some imp → brought imp.kind ≡ x → (found : Import) × (item_at xs i ≡ Some found) × (brought found.kind ≡ x)
  import_stays x i imp h brings = elim (cases_eq i k) as (λ _. (found : Import) × (item_at xs i ≡ Some found) × (brought found.kind ≡ x)) [
    | inl e ↦
        let both : Some old ≡ Some imp = sym at ∙ sym (ap (item_at m.imports) e) ∙ h in
        let is_old : old ≡ imp = cc in
        (new, this m.imports.slots xs.slots k old new at is i e, ap brought (same ∙ ap (λ (y : Import). y.kind) is_old) ∙ brings)
    | inr e ↦ (imp, besides m.imports.slots xs.slots k old new at is i e ∙ h, brings)
  ]

  pub written : IsLinked m → IsLinked n
  written l = record {
    imports = import_at l;
    imported = λ x i h. let o = l.imported x i h in import_stays x i o.0 o.1 o.2;
    whole = l.whole;
    named = l.named;
    grouped = l.grouped;
    exported = l.exported;
    started = l.started;
  }

-- What is left of a module.
use Rattle.std.proofs.Common.{◌≡◌, ℕ, Bool, List, sym, ap, subst, inl, inr, arith}
use Rattle.std.specs.Prelude.{◌↔◌, Decides}
use Rattle.wasm_formats.specs.declared.fault.Space.{Space}
use Rattle.wasm_formats.specs.declared.fault.Space.TheVariants as spaces
use Rattle.walrus_arena.specs.Arena.{Arena}
use Rattle.walrus_types.specs.TypeLaws.{AreGrouped}
use Rattle.walrus_refusals.specs.walrus_used.walrus_module.Parts.{Module}
use Rattle.walrus_roots.specs.declared.item.Item.{Item}
use Rattle.walrus_roots.specs.Items.{item, space_number}
use Rattle.walrus_marks.specs.Chains.{FitsIn, refers}
use Rattle.walrus_refusals.specs.walrus_used.walrus_references.Kept.{IsSpared, Kept}
use Rattle.walrus_refusals.specs.walrus_used.walrus_module.Items.{Lives}
use Rattle.walrus_refusals.specs.walrus_used.walrus_module.Items.{brought}
use Rattle.walrus_refusals.specs.Sound.{IsSound}
use Rattle.walrus_refusals.proofs.GroupedLemmas.{in_mapped}
use Rattle.walrus_refusals.specs.walrus_used.Counts.{counts_of}
use Rattle.walrus_refusals.proofs.walrus_used.CountLemmas.{lives_fit}
use Rattle.walrus_passes.specs.DroppedTypes.{AreClosed}
use Rattle.walrus_passes.specs.Part.{IsPart, Rest}
use Rattle.walrus_passes.specs.UsedItems.{HasJust}
use Rattle.walrus_passes.specs.declared.used.Used.{Used}
use Rattle.walrus_passes.proofs.RestLemmas.{rest_as}
use Rattle.walrus_passes.proofs.TypeLemmas.{types_as}

module _ (m : Module) (pushed : List Item) where
  no_type : (id : ℕ) → IsSpared m pushed (item spaces.Type id) → ⊥
  no_type id p = (let same : 0 ≡ 3 = ap (λ (x : Item). space_number x.space) p.is in omega (arith, same))

  -- an explicit group is kept whole
  kept_closed : AreClosed (λ id. Kept m pushed (item spaces.Type id)) m.types
  kept_closed place group at ex i j has_i has_j kept = elim kept as (λ _. Kept m pushed (item spaces.Type j)) [
    | inl r ↦ inl (refers r (inr (group, record { place = place; live = at; listed = has_i }, ex, in_mapped (item spaces.Type) group.types j has_j)))
    | inr p ↦ absurd (no_type i p)
  ]

  pub held_closed : (Held : Item → Type 0) → ((x : Item) → Held x ↔ Kept m pushed x) → AreClosed (λ id. Held (item spaces.Type id)) m.types
  held_closed Held same place group at ex i j has_i has_j held = (same (item spaces.Type j)).1 (kept_closed place group at ex i j has_i has_j ((same (item spaces.Type i)).0 held))

  -- what is kept lives
  kept_lives : IsSound m pushed → (x : Item) → Kept m pushed x → Lives m x
  kept_lives sound x kept = elim kept as (λ _. Lives m x) [ inl r ↦ sound.live x r | inr p ↦ subst (Lives m) (sym p.is) p.first.live ]

  module _ (grouped : AreGrouped m.types) (sound : IsSound m pushed) (Held : Item → Type 0) (same : (x : Item) → Held x ↔ Kept m pushed x) where
    just : (b : Bool) (x : Item) → Decides b (FitsIn (counts_of m) x × Held x) → Decides b (Kept m pushed x)
    just b x d = (λ e. (same x).0 (d.0 e).1, λ kept. d.1 (lives_fit m grouped x (kept_lives sound x kept), (same x).1 kept))

    pub just_kept : (u : Used) → HasJust (λ x. FitsIn (counts_of m) x × Held x) u → HasJust (Kept m pushed) u
    just_kept u h = record {
      of_types = λ id. just _ (item spaces.Type id) (h.of_types id);
      of_funcs = λ id. just _ (item spaces.Function id) (h.of_funcs id);
      of_tables = λ id. just _ (item spaces.Table id) (h.of_tables id);
      of_memories = λ id. just _ (item spaces.Memory id) (h.of_memories id);
      of_tags = λ id. just _ (item spaces.Tag id) (h.of_tags id);
      of_globals = λ id. just _ (item spaces.Global id) (h.of_globals id);
      of_elements = λ id. just _ (item spaces.Element id) (h.of_elements id);
      of_data_segments = λ id. just _ (item spaces.Data id) (h.of_data_segments id);
    }

by_id : {T : Type 0} (P Q : Item → Type 0) → ((x : Item) → P x ↔ Q x) → (space : Space) (a b : Arena T) → Rest (λ id _. P (item space id)) a b → Rest (λ id _. Q (item space id)) a b
by_id P Q same space a b r = rest_as (λ id _. P (item space id)) (λ id _. Q (item space id)) a b (λ id _. (same (item space id)).0) (λ id _. (same (item space id)).1) r

-- a part by the same condition in other words
pub part_as : (P Q : Item → Type 0) (m n : Module) → ((x : Item) → P x ↔ Q x) → IsPart P m n → IsPart Q m n
part_as P Q m n same p = record {
  types = types_as (λ id. P (item spaces.Type id)) (λ id. Q (item spaces.Type id)) m.types n.types (λ id. (same (item spaces.Type id)).0) (λ id. (same (item spaces.Type id)).1) p.types;
  funcs = by_id P Q same spaces.Function m.funcs n.funcs p.funcs;
  tables = by_id P Q same spaces.Table m.tables n.tables p.tables;
  memories = by_id P Q same spaces.Memory m.memories n.memories p.memories;
  tags = by_id P Q same spaces.Tag m.tags n.tags p.tags;
  globals = by_id P Q same spaces.Global m.globals n.globals p.globals;
  elements = by_id P Q same spaces.Element m.elements n.elements p.elements;
  data_segments = by_id P Q same spaces.Data m.data_segments n.data_segments p.data_segments;
  imports = rest_as (λ _ import. P (brought import.kind)) (λ _ import. Q (brought import.kind)) m.imports n.imports (λ _ import. (same (brought import.kind)).0) (λ _ import. (same (brought import.kind)).1) p.imports;
  others = p.others;
}

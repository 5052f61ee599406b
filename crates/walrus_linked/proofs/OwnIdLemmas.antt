-- Each call keeps the items' own ids.
use Rattle.std.proofs.Common.{◌≡◌, ◌∙◌, ℕ, List, [], Option, Some, None, slice_index_or, sym, ap, inl, inr}
use Rattle.walrus_arena.specs.Arena.{Arena, item_at}
use Rattle.walrus_linked.specs.OwnIds.{HaveOwnIds, Edit, OwnIdsAreKept}
use Rattle.walrus_linked.specs.OwnIds.Edit.{Stays, Adds, Deletes, Writes}
use Rattle.walrus_linked.proofs.SlotLemmas.{at_push, at_set}

module _ {T : Type 0} (id_of : T → ℕ) where
  same_at : (a b : Arena T) (slots : List (Option T)) (id : ℕ) (x : T) → b.slots ≡ slots → item_at b id ≡ Some x → slice_index_or slots id None ≡ Some x
  same_at a b slots id x e h = sym (ap (λ (ss : List (Option T)). slice_index_or ss id None) e) ∙ h

  keeps : (old new : Arena T) → Edit id_of old new → HaveOwnIds id_of old → HaveOwnIds id_of new
  keeps old new (Stays e) own id x h = own id x (same_at old new old.slots id x e h)
  keeps old new (Adds y is e) own id x h = elim (at_push old.slots y x id (same_at old new _ id x e h)) as (λ _. id_of x ≡ id) [
    | inl g ↦ own id x g
    | inr g ↦ ap id_of g.1 ∙ is ∙ sym g.0
  ]
  keeps old new (Deletes k e) own id x h = elim (at_set old.slots k id None x (same_at old new _ id x e h)) as (λ _. id_of x ≡ id) [
    | inl g ↦ own id x g
    | inr g ↦ let none : None ≡ Some x = g.1 in absurd cc
  ]
  keeps old new (Writes k y z at is e) own id x h = elim (at_set old.slots k id (Some z) x (same_at old new _ id x e h)) as (λ _. id_of x ≡ id) [
    | inl g ↦ own id x g
    | inr g ↦ let same : z ≡ x = cc in ap id_of (sym same) ∙ is ∙ own k y at ∙ sym g.0
  ]

  pub own_ids : OwnIdsAreKept id_of
  own_ids = record {
    begins = λ a e id x h. let none : slice_index_or [] id None ≡ Some x = same_at a a [] id x e h in absurd cc;
    keeps = keeps;
  }

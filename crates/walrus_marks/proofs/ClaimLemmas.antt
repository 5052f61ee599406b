-- Sets of ids by space.
use Rattle.std.proofs.Common.{◌≡◌, ◌∙◌, ◌<◌, ◌⊎◌, ℕ, true, cond, List, [], length, get_or, sym, ap, subst, inl, inr, arith}
use Rattle.std.specs.Prelude.{◌↔◌, IsTrue, nat_eq}
use Rattle.std.specs.List.{list_any}
use Rattle.std.proofs.Math.ListN.{set, length-set}
use Rattle.std.proofs.lemmas.List.{get_or-map, get_or-set_same, get_or-set_other, length-map, map-set}
use Rattle.std.specs.HashSet.{HashSet, keys}
use Rattle.std.proofs.lemmas.Bool.{cases_eq, eq-eqb, ne_eqb}
use Rattle.walrus_roots.specs.declared.item.Item.{Item}
use Rattle.walrus_roots.specs.Items.{space_number}
use Rattle.walrus_marks.specs.Marks.{is_claimed}
use Rattle.walrus_marks.specs.Claims.{IsAdded, ids_of}
use Rattle.walrus_marks.proofs.MarkLemmas.{same_item}

-- one more id in a space
module _ (old : List (List ℕ)) (i : Item) (ids : List ℕ) (below : space_number i.space < length old)
    (more : (q : ℕ) → list_any (nat_eq q) ids ≡ cond (nat_eq i.id q) true (list_any (nat_eq q) (get_or old (space_number i.space) []))) where
  abbrev new : List (List ℕ)
  new = set old (space_number i.space) ids

  at_space : (x : Item) → space_number x.space ≡ space_number i.space → is_claimed new x ≡ cond (nat_eq i.id x.id) true (is_claimed old x)
  at_space x e = ap (λ k. list_any (nat_eq x.id) (get_or new k [])) e ∙ ap (list_any (nat_eq x.id)) (get_or-set_same old (space_number i.space) ids [] below) ∙ more x.id
      ∙ ap (λ k. cond (nat_eq i.id x.id) true (list_any (nat_eq x.id) (get_or old k []))) (sym e)

  at_other : (x : Item) → (space_number x.space ≡ space_number i.space → ⊥) → is_claimed new x ≡ is_claimed old x
  at_other x other = ap (list_any (nat_eq x.id)) (get_or-set_other old (space_number i.space) (space_number x.space) ids [] other)

  same_id : (x : Item) → x ≡ i → nat_eq i.id x.id ≡ true
  same_id x e = eq-eqb i.id x.id (sym (ap (λ (y : Item). y.id) e))

  now_is : (x : Item) → space_number x.space ≡ space_number i.space → IsTrue (is_claimed new x) ↔ ((x ≡ i) ⊎ IsTrue (is_claimed old x))
  now_is x space = elim (cases_eq x.id i.id) as (λ _. IsTrue (is_claimed new x) ↔ ((x ≡ i) ⊎ IsTrue (is_claimed old x))) [
    | inl e ↦ (
      λ _. inl (same_item x i space e),
      λ _. at_space x space ∙ ap (λ b. cond b true (is_claimed old x)) (eq-eqb i.id x.id (sym e)),
    )
    | inr other ↦ (let is : is_claimed new x ≡ is_claimed old x = at_space x space ∙ ap (λ b. cond b true (is_claimed old x)) (ne_eqb i.id x.id (λ e. other (sym e))) in (
      λ h. inr (sym is ∙ h),
      λ h. elim h as (λ _. IsTrue (is_claimed new x)) [ inl e ↦ absurd (other (ap (λ (y : Item). y.id) e)) | inr before ↦ is ∙ before ],
    ))
  ]

  pub one_added : IsAdded old i new
  one_added = record {
    sized = length-set old (space_number i.space) ids;
    are = λ x. elim (cases_eq (space_number x.space) (space_number i.space)) as (λ _. IsTrue (is_claimed new x) ↔ ((x ≡ i) ⊎ IsTrue (is_claimed old x))) [
      | inl e ↦ now_is x e
      | inr other ↦ (
        λ h. inr (sym (at_other x other) ∙ h),
        λ h. elim h as (λ _. IsTrue (is_claimed new x)) [ inl e ↦ absurd (other (ap (λ (y : Item). space_number y.space) e)) | inr before ↦ at_other x other ∙ before ],
      )
    ];
  }

-- the same among sets
pub set_added : {S : Type 0} (sets : List (HashSet ℕ S)) (i : Item) (k : ℕ) (s w : HashSet ℕ S) → k ≡ space_number i.space → k < length sets → s ≡ get_or sets k s
    → ((q : ℕ) → list_any (nat_eq q) (keys w) ≡ cond (nat_eq i.id q) true (list_any (nat_eq q) (keys s))) → IsAdded (ids_of sets) i (ids_of (set sets k w))
set_added sets i k s w is below was more =
    let low : space_number i.space < length (ids_of sets) = omega (arith, below, is, length-map sets keys) in
    let here : keys s ≡ get_or (ids_of sets) (space_number i.space) [] = ap keys was ∙ sym (get_or-map keys sets k s [] below) ∙ ap (λ n. get_or (ids_of sets) n []) is in
    subst (IsAdded (ids_of sets) i) (ap (λ n. set (ids_of sets) n (keys w)) (sym is) ∙ sym (map-set keys sets k w))
    (one_added (ids_of sets) i (keys w) low (λ q. more q ∙ ap (λ (ids : List ℕ). cond (nat_eq i.id q) true (list_any (nat_eq q) ids)) here))

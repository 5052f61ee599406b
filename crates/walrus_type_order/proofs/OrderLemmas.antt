-- Places that are sorted stand in the order in which entries are written.
use Rattle.std.proofs.Common.{◌≡◌, ◌≢◌, ℕ, ◌<◌, ◌≤◌, ◌⊎◌, Bool, false, Ordering, List, length, map, All, AllPairs, IsPermutation, Option, Some, None, refl, sym, ap, subst, ◌∙◌, inl, inr, arith}
use Rattle.std.specs.Prelude.{slice_get}
use Rattle.std.specs.declared.cmp.Ordering.TheVariants.{Less, Equal, Greater}
use Rattle.std.specs.Option.{option_cmp}
use Rattle.std.specs.Ordering.{ordering_then, ordering_reverse, nat_cmp, is_lt}
use Rattle.std.specs.Cmp.{IsTotalOrder, IsStrictWeakOrder}
use Rattle.std.specs.Cmp.Lexicographic.{options_total}
use Rattle.std.specs.List.{range_with_len}
use Rattle.std.specs.List.Sorted.{IsSortedBy}
use Rattle.std.proofs.lemmas.List.Sorted.{ranks_by, IsPermutation-map}
use Rattle.std.proofs.lemmas.Bool.{false≢true, cases_lt}
use Rattle.std.proofs.lemmas.Bool.Decides.{nat_tests}
use Rattle.std.proofs.lemmas.Cmp.{on_total, then_total, nat_cmp_total, tied_back, tied_itself}
use Rattle.std.proofs.lemmas.Option.{slice_get_within, same_Some}
use Rattle.walrus_type_order.specs.Order.{HasAnchor, IsLess, IsEmissionOrder}
use Rattle.walrus_type_order.specs.Places.{IsPlaceIn}
use Rattle.walrus_type_order.specs.declared.order.Place.{Place}
use Rattle.walrus_type_order.proofs.AnchorLemmas.{anchors_upto, anchors_le, anchors_lt, anchors_cases}
use Rattle.walrus_type_order.proofs.ListLemmas.{numbers_in_order, distinct_range}

-- places as they are compared, seen through their keys
abbrev key_cmp : {T : Type 0} → (T → T → Ordering) → Place T → Place T → Ordering
key_cmp cmp p q = option_cmp cmp p.key q.key

abbrev pub place_cmp : {T : Type 0} → (T → T → Ordering) → Place T → Place T → Ordering
place_cmp cmp p q = ordering_then (nat_cmp p.anchors q.anchors) (ordering_then (key_cmp cmp p q) (nat_cmp p.position q.position))

abbrev pub place_lt : {T : Type 0} → (T → T → Ordering) → Place T → Place T → Bool
place_lt cmp p q = is_lt (place_cmp cmp p q)

place_order : {T : Type 0} (cmp : T → T → Ordering) → IsTotalOrder cmp → IsStrictWeakOrder (place_lt cmp)
place_order {T} cmp total = ranks_by (then_total (on_total (λ (p : Place T). p.anchors) nat_cmp_total) (then_total (on_total (λ (p : Place T). p.key) (options_total total)) (on_total (λ (p : Place T). p.position) nat_cmp_total))) (λ (p : Place T). p)

not_more : (a b : ℕ) (o : Ordering) → is_lt (ordering_then (nat_cmp a b) o) ≡ false → b ≤ a
not_more a b o h = grind (arith, nat_tests)

when_equal : (a b : ℕ) (o : Ordering) → a ≡ b → is_lt (ordering_then (nat_cmp a b) o) ≡ false → is_lt o ≡ false
when_equal a b o e h =
    let same : nat_cmp a b ≡ Equal = subst (λ (c : ℕ). nat_cmp a c ≡ Equal) e (tied_itself nat_cmp_total a) in
    sym (ap (λ (r : Ordering). is_lt (ordering_then r o)) same) ∙ h

less_by : {T : Type 0} (cmp : T → T → Ordering) → IsTotalOrder cmp → (x y : T) (i j : ℕ) → i ≢ j → (o : Ordering) → cmp y x ≡ o → is_lt (ordering_then o (nat_cmp j i)) ≡ false → (cmp x y ≡ Less) ⊎ ((cmp x y ≡ Equal) × (i < j))
less_by cmp total x y i j differ Less e h = absurd (false≢true (sym h))
less_by cmp total x y i j differ Equal e h = inr (tied_back total y x e, grind (arith, nat_tests))
less_by cmp total x y i j differ Greater e h = inl (total.antisymm x y ∙ ap ordering_reverse e)

module _ {T : Type 0} (cmp : T → T → Ordering) (total : IsTotalOrder cmp) (entries : List (Option T)) where
  before_anchor : (x : Option T) (o : Ordering) (i : ℕ) → slice_get entries i ≡ Some x → is_lt (ordering_then (option_cmp cmp None x) o) ≡ false → slice_get entries i ≡ Some None
  before_anchor None o i at h = at
  before_anchor (Some x) o i at h = absurd (false≢true (sym h))

  -- an anchor between two places, the later of which isn't less
  divided : (p q : Place T) → IsPlaceIn entries p → IsPlaceIn entries q → p.position ≢ q.position → place_lt cmp q p ≡ false → HasAnchor entries q.position p.position → ⊥
  divided p q is_p is_q differ h has =
      let p_in : p.position < length entries = slice_get_within entries p.position _ is_p.key in
      let fewer : p.anchors ≤ q.anchors = not_more q.anchors p.anchors _ h in
      let p_counts : p.anchors ≡ anchors_upto entries p.position = is_p.anchors in
      let q_counts : q.anchors ≡ anchors_upto entries q.position = is_q.anchors in
      let from : q.position ≤ has.position = has.from in
      let upto : has.position ≤ p.position = has.upto in
      let before : q.position < p.position = omega (arith, differ) in
      elim (cases_lt q.position has.position) as (λ _. ⊥) [
        | inl between ↦ let more : anchors_upto entries q.position < anchors_upto entries p.position = anchors_lt entries q.position has.position p.position between upto p_in has.anchor in omega arith
        | inr at ↦
            let same : has.position ≡ q.position = omega arith in
            let low : anchors_upto entries q.position ≤ anchors_upto entries p.position = anchors_le entries q.position p.position (omega arith) p_in in
            let no_key : q.key ≡ None = sym (same_Some _ _ (sym (subst (λ n. slice_get entries n ≡ Some None) same has.anchor) ∙ is_q.key)) in
            let keys : is_lt (ordering_then (option_cmp cmp q.key p.key) (nat_cmp q.position p.position)) ≡ false = when_equal q.anchors p.anchors _ (omega arith) h in
            let first : is_lt (ordering_then (option_cmp cmp None p.key) (nat_cmp q.position p.position)) ≡ false = subst (λ (k : Option T). is_lt (ordering_then (option_cmp cmp k p.key) (nat_cmp q.position p.position)) ≡ false) no_key keys in
            let anchor : slice_get entries p.position ≡ Some None = before_anchor p.key (nat_cmp q.position p.position) p.position is_p.key first in
            let more : anchors_upto entries q.position < anchors_upto entries p.position = anchors_lt entries q.position p.position p.position before (omega arith) p_in anchor in
            omega arith
      ]

  -- two places that no anchor divides have as many anchors up to them
  undivided : (p q : Place T) → IsPlaceIn entries p → IsPlaceIn entries q → p.position ≢ q.position → place_lt cmp q p ≡ false → (HasAnchor entries p.position q.position → ⊥) → q.anchors ≡ p.anchors
  undivided p q is_p is_q differ h none =
      let p_in : p.position < length entries = slice_get_within entries p.position _ is_p.key in
      let q_in : q.position < length entries = slice_get_within entries q.position _ is_q.key in
      elim (cases_lt p.position q.position) as (λ _. q.anchors ≡ p.anchors) [
        | inl before ↦ elim (anchors_cases entries p.position q.position (omega arith) q_in) as (λ _. q.anchors ≡ p.anchors) [
          | inl has ↦ absurd (none has)
          | inr same ↦ is_q.anchors ∙ same ∙ sym is_p.anchors
        ]
        | inr after ↦ elim (anchors_cases entries q.position p.position after p_in) as (λ _. q.anchors ≡ p.anchors) [
          | inl has ↦ absurd (divided p q is_p is_q differ h has)
          | inr same ↦ is_q.anchors ∙ sym same ∙ sym is_p.anchors
        ]
      ]

  lesser : (p q : Place T) → IsPlaceIn entries p → IsPlaceIn entries q → p.position ≢ q.position → place_lt cmp q p ≡ false → (HasAnchor entries p.position q.position → ⊥) → IsLess cmp entries p.position q.position
  lesser p q is_p is_q differ h none = λ x y at_x at_y.
      let keys : is_lt (ordering_then (option_cmp cmp q.key p.key) (nat_cmp q.position p.position)) ≡ false = when_equal q.anchors p.anchors _ (undivided p q is_p is_q differ h none) h in
      let is_x : p.key ≡ Some x = same_Some _ _ (sym is_p.key ∙ at_x) in
      let is_y : q.key ≡ Some y = same_Some _ _ (sym is_q.key ∙ at_y) in
      let known : is_lt (ordering_then (cmp y x) (nat_cmp q.position p.position)) ≡ false =
      subst (λ (k : Option T). is_lt (ordering_then (option_cmp cmp (Some y) k) (nat_cmp q.position p.position)) ≡ false) is_x
      (subst (λ (k : Option T). is_lt (ordering_then (option_cmp cmp k p.key) (nat_cmp q.position p.position)) ≡ false) is_y keys) in
      less_by cmp total x y p.position q.position differ (cmp y x) refl known

  -- the positions of sorted places
  pub sorted_places : (ps sorted : List (Place T)) → map (λ (p : Place T). p.position) ps ≡ range_with_len 0 (length entries) → All (IsPlaceIn entries) ps → IsPermutation ps sorted → IsSortedBy (place_lt cmp) sorted →
      IsEmissionOrder cmp entries (map (λ (p : Place T). p.position) sorted)
  sorted_places ps sorted positions each perm up =
      let distinct = subst (λ (ns : List ℕ). AllPairs ◌≢◌ ns) (sym positions) (distinct_range (length entries)) in
      record {
        whole = subst (λ (ns : List ℕ). IsPermutation ns (map (λ (p : Place T). p.position) sorted)) positions (IsPermutation-map (λ (p : Place T). p.position) ps sorted perm);
        anchored = numbers_in_order (place_lt cmp) (place_order cmp total) (λ (p : Place T). p.position) (IsPlaceIn entries) (λ i j. HasAnchor entries j i → ⊥) ps sorted perm up each distinct divided;
        sorted = numbers_in_order (place_lt cmp) (place_order cmp total) (λ (p : Place T). p.position) (IsPlaceIn entries) (λ i j. (HasAnchor entries i j → ⊥) → IsLess cmp entries i j) ps sorted perm up each distinct lesser;
      }

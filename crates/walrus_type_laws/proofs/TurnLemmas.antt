-- The order in which the groups of a table are written, where the groups of another were turned.
use Rattle.std.proofs.Common.{◌≡◌, ◌≢◌, ◌∙◌, ℕ, ◌<◌, ◌≤◌, ◌⊎◌, inl, inr, List, length, map, Option, Some, None, Ordering, sym, ap, subst, arith}
use Rattle.std.specs.Prelude.{slice_index_or}
use Rattle.std.specs.List.{slice_get}
use Rattle.std.specs.declared.cmp.Ordering.TheVariants.{Less, Equal, Greater}
use Rattle.std.specs.Ordering.{ordering_reverse, is_lt, is_eq}
use Rattle.std.proofs.lemmas.Bool.{false≢true, cases_lt}
use Rattle.std.proofs.lemmas.List.{length-map}
use Rattle.std.proofs.lemmas.Option.{slice_get_within, slice_get-get_or, get_or_from_slice_get, same_Some}
use Rattle.walrus_forms.specs.Kinds.{Kind}
use Rattle.walrus_forms.specs.Order.{kind_cmp}
use Rattle.walrus_type_order.specs.Order.{HasAnchor, IsLess, IsEmissionOrder}
use Rattle.walrus_type_laws.proofs.KindOrder.{kinds-turned}
use Rattle.walrus_types.proofs.Places.{Pairs, Turns, get, pairs_of, turns_of, map_at, at_map, one_order}

module _ (keys : List (Option Kind)) where
  -- i is written before j
  abbrev pub Before : ℕ → ℕ → Type 0
  Before i j = (HasAnchor keys j i → ⊥) × ((HasAnchor keys i j → ⊥) → IsLess kind_cmp keys i j)

  not_anchor : (i j : ℕ) (e : Option Kind) → slice_get keys i ≡ Some e → i ≢ j → (HasAnchor keys i j → ⊥) → (HasAnchor keys j i → ⊥) → (x : Kind) × (slice_get keys i ≡ Some (Some x))
  not_anchor i j None at differ forth back = elim (cases_lt i j) as (λ _. (x : Kind) × (slice_get keys i ≡ Some (Some x))) [
    | inl before ↦ absurd (forth (record { position = i; anchor = at; from = omega arith; upto = omega arith }))
    | inr after ↦ absurd (back (record { position = i; anchor = at; from = after; upto = omega arith }))
  ]
  not_anchor i j (Some x) at differ forth back = (x, at)

  less_once : (i j : ℕ) (o : Ordering) → (o ≡ Less) ⊎ ((o ≡ Equal) × (i < j)) → (ordering_reverse o ≡ Less) ⊎ ((ordering_reverse o ≡ Equal) × (j < i)) → ⊥
  less_once i j Less one (inl other) = false≢true (ap is_lt other)
  less_once i j Less one (inr other) = false≢true (ap is_eq other.0)
  less_once i j Equal (inl one) other = false≢true (ap is_lt one)
  less_once i j Equal (inr one) (inl other) = false≢true (ap is_lt other)
  less_once i j Equal (inr one) (inr other) = omega (arith, one.1, other.1)
  less_once i j Greater (inl one) other = false≢true (ap is_lt one)
  less_once i j Greater (inr one) other = false≢true (ap is_eq one.0)

  not_both : (i j : ℕ) → i < length keys → j < length keys → i ≢ j → Before i j → Before j i → ⊥
  not_both i j i_in j_in differ one other =
      let at_i = get keys i i_in in
      let at_j = get keys j j_in in
      let x = not_anchor i j at_i.0 at_i.1 differ other.0 one.0 in
      let y = not_anchor j i at_j.0 at_j.1 (λ e. differ (sym e)) one.0 other.0 in
      less_once i j (kind_cmp x.0 y.0) (one.1 other.0 x.0 y.0 x.1 y.1)
      (subst (λ (o : Ordering). (o ≡ Less) ⊎ ((o ≡ Equal) × (j < i))) (kinds-turned y.0 x.0) (other.1 one.0 y.0 x.0 y.1 x.1))

  -- two lists of all positions, each in order, are one
  pub one_turn : (a b : List ℕ) → Turns (length keys) a → Turns (length keys) b → Pairs Before a → Pairs Before b → a ≡ b
  one_turn a b ta tb pa pb =
      one_order Before a b (λ i j hi hj. not_both i j (ta.below hi.0 i hi.1) (ta.below hj.0 j hj.1))
      (λ n h. tb.onto n (ta.below h.0 n h.1)) (λ n h. ta.onto n (tb.below h.0 n h.1)) ta.one tb.one pa pb

-- what an order of emission says of places
pub ordered_pairs : (keys : List (Option Kind)) (order : List ℕ) → IsEmissionOrder kind_cmp keys order → Pairs (Before keys) order
ordered_pairs keys order is =
    pairs_of (Before keys) order (λ i j d before small. (is.anchored i j d before small, is.sorted i j d before small))

-- `turned` has the keys at the positions of `turn`, by which no key passes an anchor and equal ones stay in order
pub record IsTurned (keys turned : List (Option Kind)) (turn : List ℕ) : Type 0 where
  pub turns : Turns (length keys) turn
  pub sized : length turned ≡ length turn
  pub same : (p i : ℕ) → slice_get turn p ≡ Some i → slice_get turned p ≡ slice_get keys i
  pub anchored : Pairs (λ i j. HasAnchor keys j i → ⊥) turn
  pub stable : Pairs (λ i j. (a b : Kind) → slice_get keys i ≡ Some (Some a) → slice_get keys j ≡ Some (Some b) → kind_cmp a b ≡ Equal → i < j) turn

module _ (keys turned : List (Option Kind)) (turn : List ℕ) (is : IsTurned keys turned turn) where
  -- an anchor between two in the list is one between them in the turned list
  anchor_turned : (p q i j : ℕ) → slice_get turn p ≡ Some i → slice_get turn q ≡ Some j → HasAnchor keys j i → HasAnchor turned q p
  anchor_turned p q i j at_p at_q has =
      let x : ℕ = has.position in
      let z = is.turns.onto x (slice_get_within keys x None has.anchor) in
      let low : q ≤ z.0 =
      elim (cases_lt z.0 q) as (λ _. q ≤ z.0) [
        | inl before ↦ absurd (is.anchored z.0 q x j before z.1 at_q (record { position = x; anchor = has.anchor; from = has.from; upto = omega arith }))
        | inr upto ↦ upto
      ] in
      let high : z.0 ≤ p =
      elim (cases_lt p z.0) as (λ _. z.0 ≤ p) [
        | inl after ↦ absurd (is.anchored p z.0 i x after at_p z.1 (record { position = x; anchor = has.anchor; from = omega arith; upto = has.upto }))
        | inr upto ↦ upto
      ] in
      record { position = z.0; anchor = is.same z.0 x z.1 ∙ has.anchor; from = low; upto = high }

  -- and the other way round
  anchor_back : (p q i j : ℕ) → slice_get turn p ≡ Some i → slice_get turn q ≡ Some j → HasAnchor turned p q → HasAnchor keys i j
  anchor_back p q i j at_p at_q has =
      let z : ℕ = has.position in
      let from = has.from in
      let upto = has.upto in
      let there = get turn z (omega (arith, slice_get_within turned z None has.anchor, is.sized)) in
      let x : ℕ = there.0 in
      let anchor : slice_get keys x ≡ Some None = sym (is.same z x there.1) ∙ has.anchor in
      let low : i ≤ x =
      elim (cases_lt x i) as (λ _. i ≤ x) [
        | inl before ↦
            let apart : p ≢ z = λ e. let same : i ≡ x = same_Some i x (sym at_p ∙ ap (λ (k : ℕ). slice_get turn k) e ∙ there.1) in omega (arith, same, before) in
            absurd (is.anchored p z i x (omega (arith, apart, from)) at_p there.1 (record { position = x; anchor = anchor; from = omega arith; upto = omega (arith, before) }))
        | inr le ↦ le
      ] in
      let high : x ≤ j =
      elim (cases_lt j x) as (λ _. x ≤ j) [
        | inl after ↦
            let apart : z ≢ q = λ e. let same : x ≡ j = same_Some x j (sym there.1 ∙ ap (λ (k : ℕ). slice_get turn k) e ∙ at_q) in omega (arith, same, after) in
            absurd (is.anchored z q x j (omega (arith, apart, upto)) there.1 at_q (record { position = x; anchor = anchor; from = omega (arith, after); upto = omega arith }))
        | inr le ↦ le
      ] in
      record { position = x; anchor = anchor; from = low; upto = high }

  -- the turned list's order, as positions of the list
  abbrev pub composed : List ℕ → List ℕ
  composed order = map (λ p. slice_index_or turn p 0) order

  composed_at : (order : List ℕ) → Turns (length turned) order → (a i : ℕ) → slice_get (composed order) a ≡ Some i → (p : ℕ) × (slice_get order a ≡ Some p) × (slice_get turn p ≡ Some i)
  composed_at order turns a i at =
      let m = map_at (λ p. slice_index_or turn p 0) order a i at in
      let small : m.0 < length turn = omega (arith, turns.below a m.0 m.1, is.sized) in
      (m.0, m.1, slice_get-get_or turn m.0 0 small ∙ ap Some m.2)

  composed_turns : (order : List ℕ) → Turns (length turned) order → Turns (length keys) (composed order)
  composed_turns order turns = record {
    sized = length-map order (λ p. slice_index_or turn p 0) ∙ turns.sized ∙ is.sized ∙ is.turns.sized;
    below = λ a i at. let c = composed_at order turns a i at in is.turns.below c.0 i c.2;
    onto = λ i small.
        let p = is.turns.onto i small in
        let a = turns.onto p.0 (omega (arith, slice_get_within turn p.0 i p.1, is.sized)) in
        (a.0, at_map (λ q. slice_index_or turn q 0) order a.0 p.0 a.1 ∙ ap Some (get_or_from_slice_get turn p.0 i 0 p.1));
    one = λ a b i at_a at_b.
        let c = composed_at order turns a i at_a in
        let d = composed_at order turns b i at_b in
        let e : c.0 ≡ d.0 = is.turns.one c.0 d.0 i c.2 d.2 in
        turns.one a b d.0 (c.1 ∙ ap Some e) d.1;
  }

  less_turned : (p q i j : ℕ) → slice_get turn p ≡ Some i → slice_get turn q ≡ Some j → IsLess kind_cmp turned p q → IsLess kind_cmp keys i j
  less_turned p q i j at_p at_q less = λ x y at_x at_y.
      elim (less x y (is.same p i at_p ∙ at_x) (is.same q j at_q ∙ at_y)) as (λ _. (kind_cmp x y ≡ Less) ⊎ ((kind_cmp x y ≡ Equal) × (i < j))) [
        | inl l ↦ inl l
        | inr e ↦ inr (e.0, is.stable p q i j e.1 at_p at_q x y at_x at_y e.0)
      ]

  composed_pairs : (order : List ℕ) → Turns (length turned) order → Pairs (Before turned) order → Pairs (Before keys) (composed order)
  composed_pairs order turns pairs = λ a b i j before at_a at_b.
      let c = composed_at order turns a i at_a in
      let d = composed_at order turns b j at_b in
      let known : Before turned c.0 d.0 = pairs a b c.0 d.0 before c.1 d.1 in (
        λ has. known.0 (anchor_turned c.0 d.0 i j c.2 d.2 has),
        λ none. less_turned c.0 d.0 i j c.2 d.2 (known.1 (λ has. none (anchor_back c.0 d.0 i j c.2 d.2 has))),
      )

  -- the two are written in one order
  pub one_composed : (a b : List ℕ) → IsEmissionOrder kind_cmp keys a → IsEmissionOrder kind_cmp turned b → a ≡ composed b
  one_composed a b is_a is_b =
      let tb : Turns (length turned) b = turns_of (length turned) b is_b.whole in
      one_turn keys a (composed b) (turns_of (length keys) a is_a.whole) (composed_turns b tb) (ordered_pairs keys a is_a) (composed_pairs b tb (ordered_pairs turned b is_b))

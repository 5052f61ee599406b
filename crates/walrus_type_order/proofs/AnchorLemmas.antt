-- Anchors between two positions, and how many anchors stand up to them.
use Rattle.std.proofs.Common.{◌≡◌, ℕ, ◌+◌, ◌-◌, ◌<◌, ◌≤◌, ◌⊎◌, zero, suc, List, length, take, Option, Some, None, sym, ap, subst, ◌∙◌, inl, inr, arith}
use Rattle.std.specs.Prelude.{slice_get, count_by, is_none}
use Rattle.std.proofs.lemmas.List.Sums.{count_by_more_no, count_by_more_yes}
use Rattle.std.proofs.lemmas.Option.{slice_get_within, get_or_from_slice_get, slice_get_cases}
use Rattle.walrus_type_order.specs.Order.{HasAnchor}

-- how many anchors stand up to a position
abbrev pub anchors_upto : {K : Type 0} → List (Option K) → ℕ → ℕ
anchors_upto entries i = count_by is_none (take (i + 1) entries)

module _ {K : Type 0} where
  at_anchor : (entries : List (Option K)) (i : ℕ) → slice_get entries (i + 1) ≡ Some None → anchors_upto entries (i + 1) ≡ anchors_upto entries i + 1
  at_anchor entries i at = count_by_more_yes is_none entries (i + 1) None (slice_get_within entries (i + 1) None at) (ap is_none (get_or_from_slice_get entries (i + 1) None None at))

  at_key : (entries : List (Option K)) (i : ℕ) (x : K) → slice_get entries (i + 1) ≡ Some (Some x) → anchors_upto entries (i + 1) ≡ anchors_upto entries i
  at_key entries i x at = count_by_more_no is_none entries (i + 1) None (slice_get_within entries (i + 1) (Some x) at) (ap is_none (get_or_from_slice_get entries (i + 1) (Some x) None at))

  -- one position on there is an anchor, or as many as before stand up to it
  at_next : (entries : List (Option K)) (i : ℕ) (e : Option K) → slice_get entries (i + 1) ≡ Some e → (slice_get entries (i + 1) ≡ Some None) ⊎ (anchors_upto entries (i + 1) ≡ anchors_upto entries i)
  at_next entries i None at = inl at
  at_next entries i (Some x) at = inr (at_key entries i x at)

  next_le : (entries : List (Option K)) (i : ℕ) (e : Option K) → slice_get entries (i + 1) ≡ Some e → anchors_upto entries i ≤ anchors_upto entries (i + 1)
  next_le entries i None at = let e : anchors_upto entries (i + 1) ≡ anchors_upto entries i + 1 = at_anchor entries i at in omega arith
  next_le entries i (Some x) at = let e : anchors_upto entries (i + 1) ≡ anchors_upto entries i = at_key entries i x at in omega arith

  entry_at : (entries : List (Option K)) (i : ℕ) → i < length entries → (e : Option K) × (slice_get entries i ≡ Some e)
  entry_at entries i small = elim (slice_get_cases entries i).1 as (λ _. (e : Option K) × (slice_get entries i ≡ Some e)) [
    | inl (x, inside, found, is) ↦ (x, found)
    | inr past ↦ absurd (omega (arith, past.0))
  ]

  -- they don't fall
  upto_le : (entries : List (Option K)) (i d : ℕ) → i + d < length entries → anchors_upto entries i ≤ anchors_upto entries (i + d)
  upto_le entries i zero small = let e : i + 0 ≡ i = omega arith in subst (λ j. anchors_upto entries i ≤ anchors_upto entries j) (sym e) (omega arith)
  upto_le entries i (suc d) small =
      let e : i + suc d ≡ i + d + 1 = omega arith in
      let one : i + d + 1 < length entries = omega arith in
      let before : anchors_upto entries i ≤ anchors_upto entries (i + d) = upto_le entries i d (omega arith) in
      let at = entry_at entries (i + d + 1) one in
      let step : anchors_upto entries (i + d) ≤ anchors_upto entries (i + d + 1) = next_le entries (i + d) at.0 at.1 in
      subst (λ j. anchors_upto entries i ≤ anchors_upto entries j) (sym e) (omega arith)

  pub anchors_le : (entries : List (Option K)) (i j : ℕ) → i ≤ j → j < length entries → anchors_upto entries i ≤ anchors_upto entries j
  anchors_le entries i j le small =
      let e : i + (j - i) ≡ j = omega arith in
      subst (λ n. anchors_upto entries i ≤ anchors_upto entries n) e (upto_le entries i (j - i) (omega arith))

  -- past an anchor there are more
  pub anchors_lt : (entries : List (Option K)) (i k j : ℕ) → i < k → k ≤ j → j < length entries → slice_get entries k ≡ Some None → anchors_upto entries i < anchors_upto entries j
  anchors_lt entries i k j before after small at =
      let e : k - 1 + 1 ≡ k = omega arith in
      let more : anchors_upto entries (k - 1 + 1) ≡ anchors_upto entries (k - 1) + 1 = at_anchor entries (k - 1) (subst (λ n. slice_get entries n ≡ Some None) (sym e) at) in
      let more_at : anchors_upto entries k ≡ anchors_upto entries (k - 1) + 1 = subst (λ n. anchors_upto entries n ≡ anchors_upto entries (k - 1) + 1) e more in
      let low : anchors_upto entries i ≤ anchors_upto entries (k - 1) = anchors_le entries i (k - 1) (omega arith) (omega arith) in
      let high : anchors_upto entries k ≤ anchors_upto entries j = anchors_le entries k j after small in
      omega arith

  -- between two positions there is an anchor, or as many stand up to both
  upto_cases : (entries : List (Option K)) (i d : ℕ) → i + d < length entries → HasAnchor entries i (i + d) ⊎ (anchors_upto entries (i + d) ≡ anchors_upto entries i)
  upto_cases entries i zero small = let e : i + 0 ≡ i = omega arith in inr (ap (λ n. anchors_upto entries n) e)
  upto_cases entries i (suc d) small =
      let e : i + d + 1 ≡ i + suc d = omega arith in
      let at = entry_at entries (i + d + 1) (omega arith) in
      subst (λ j. HasAnchor entries i j ⊎ (anchors_upto entries j ≡ anchors_upto entries i)) e
      (elim (upto_cases entries i d (omega arith)) as (λ _. HasAnchor entries i (i + d + 1) ⊎ (anchors_upto entries (i + d + 1) ≡ anchors_upto entries i)) [
        | inl has ↦ inl (record { position = has.position; anchor = has.anchor; from = has.from; upto = omega (arith, has.upto) })
        | inr same ↦ elim (at_next entries (i + d) at.0 at.1) as (λ _. HasAnchor entries i (i + d + 1) ⊎ (anchors_upto entries (i + d + 1) ≡ anchors_upto entries i)) [
          | inl anchor ↦ inl (record { position = i + d + 1; anchor = anchor; from = omega arith; upto = omega arith })
          | inr more ↦ inr (more ∙ same)
        ]
      ])

  pub anchors_cases : (entries : List (Option K)) (i j : ℕ) → i ≤ j → j < length entries → HasAnchor entries i j ⊎ (anchors_upto entries j ≡ anchors_upto entries i)
  anchors_cases entries i j le small =
      let e : i + (j - i) ≡ j = omega arith in
      subst (λ n. HasAnchor entries i n ⊎ (anchors_upto entries n ≡ anchors_upto entries i)) e (upto_cases entries i (j - i) (omega arith))

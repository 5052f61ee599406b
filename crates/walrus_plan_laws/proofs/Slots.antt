-- Lemmas: slots, the numbers of those that are filled, and a fold over what is in them.
use Rattle.std.specs.Prelude.{ℕ, zero, suc, ◌+◌, ◌≡◌, Bool, true, false, cond, List, [], ◌∷◌, map, filter, fold, Option, Some, None, slice_index_or, refl, if◌then◌else◌}
use Rattle.std.specs.List.{cons_option, filter_map}
use Rattle.std.specs.Option.{option_map}
use Rattle.std.proofs.Common.{ap, ◌∙◌, subst, arith}
use Rattle.std.proofs.lemmas.Option.{none-some, same_Some}
use Rattle.walrus_arena.specs.Arena.{entries_from}
use Rattle.walrus_plan_laws.specs.Plans.{living}
use Rattle.walrus_plan_laws.proofs.Lists.{In, RiseFrom, in_later, rise_lower}

module _ {A : Type 0} where
  abbrev pub ids_from : ℕ → List (Option A) → List ℕ
  ids_from k slots = map (λ (e : ℕ × A). e.0) (entries_from k slots)

  pub ids_rise : (k : ℕ) (slots : List (Option A)) → RiseFrom k (ids_from k slots)
  ids_rise k [] = tt
  ids_rise k (None ∷ slots) = rise_lower k (k + 1) (ids_from (k + 1) slots) (omega arith) (ids_rise (k + 1) slots)
  ids_rise k (Some x ∷ slots) = (omega arith, rise_lower (suc k) (k + 1) (ids_from (k + 1) slots) (omega arith) (ids_rise (k + 1) slots))

  in_ids : (k : ℕ) (slots : List (Option A)) (i n : ℕ) (x : A) → k + i ≡ n → slice_index_or slots i None ≡ Some x → In (ids_from k slots) n
  in_ids k [] i n x e is = absurd (none-some x is)
  in_ids k (None ∷ slots) zero n x e is = absurd (none-some x is)
  in_ids k (None ∷ slots) (suc i) n x e is = in_ids (k + 1) slots i n x (omega (arith, e)) is
  in_ids k (Some y ∷ slots) zero n x e is = (zero, ap (λ (j : ℕ). Some j) (let same : k ≡ n = omega (arith, e) in same))
  in_ids k (Some y ∷ slots) (suc i) n x e is = in_later k n (ids_from (k + 1) slots) (in_ids (k + 1) slots i n x (omega (arith, e)) is)

  ids_in : (k : ℕ) (slots : List (Option A)) (n : ℕ) → In (ids_from k slots) n → (i : ℕ) × ((k + i ≡ n) × ((x : A) × (slice_index_or slots i None ≡ Some x)))
  ids_in k [] n (i, e) = absurd (none-some n e)
  ids_in k (None ∷ slots) n at = let h = ids_in (k + 1) slots n at in (suc h.0, (omega (arith, h.1.0), h.1.1))
  ids_in k (Some x ∷ slots) n (zero, e) = (zero, ((let same : k ≡ n = same_Some k n e in omega (arith, same)), (x, refl)))
  ids_in k (Some x ∷ slots) n (suc i, e) = let h = ids_in (k + 1) slots n (i, e) in (suc h.0, (omega (arith, h.1.0), h.1.1))

  pub living_has : (slots : List (Option A)) (n : ℕ) (x : A) → slice_index_or slots n None ≡ Some x → In (living slots) n
  living_has slots n x is = in_ids 0 slots n n x (omega arith) is

  pub has_living : (slots : List (Option A)) (n : ℕ) → In (living slots) n → (x : A) × (slice_index_or slots n None ≡ Some x)
  has_living slots n at =
      let h = ids_in 0 slots n at in
      let same : h.0 ≡ n = omega (arith, h.1.0) in
      (h.1.1.0, subst (λ (j : ℕ). slice_index_or slots j None ≡ Some h.1.1.0) same h.1.1.1)

  pub living_rises : (slots : List (Option A)) → RiseFrom 0 (living slots)
  living_rises slots = ids_rise 0 slots

module _ {A B : Type 0} (see : A → B) where
  pub slot_at : (slots : List (Option A)) (n : ℕ) → slice_index_or (map (option_map see) slots) n None ≡ option_map see (slice_index_or slots n None)
  slot_at [] n = refl
  slot_at (x ∷ slots) zero = refl
  slot_at (x ∷ slots) (suc n) = slot_at slots n

  ids_seen : (k : ℕ) (slots : List (Option A)) → ids_from k (map (option_map see) slots) ≡ ids_from k slots
  ids_seen k [] = refl
  ids_seen k (None ∷ slots) = ids_seen (k + 1) slots
  ids_seen k (Some x ∷ slots) = ap (λ (l : List ℕ). k ∷ l) (ids_seen (k + 1) slots)

  pub living_seen : (slots : List (Option A)) → living (map (option_map see) slots) ≡ living slots
  living_seen slots = ids_seen 0 slots

-- ---- a step for an item that gives an id is one for that id

abbrev pub given_if : {V : Type 0} → (V → ℕ → V) → Option ℕ → V → V
given_if step None v = v
given_if step (Some n) v = step v n

module _ {A V : Type 0} (step : V → A → V) (turn : V → ℕ → V) (given : ℕ → Option ℕ) where
  one_given : (o : Option ℕ) (v : V) (ns : List ℕ) → fold turn (given_if turn o v) (filter_map given ns) ≡ fold turn v (cons_option o (filter_map given ns))
  one_given None v ns = refl
  one_given (Some n) v ns = refl

  folded_from : (k : ℕ) (slots : List (Option A)) → ((i : ℕ) (x : A) → slice_index_or slots i None ≡ Some x → (v : V) → step v x ≡ given_if turn (given (k + i)) v) → (v : V)
      → fold step v (map (λ (e : ℕ × A). e.1) (entries_from k slots)) ≡ fold turn v (filter_map given (ids_from k slots))
  folded_from k [] h v = refl
  folded_from k (None ∷ slots) h v = folded_from (k + 1) slots (λ i x e w. let same : k + suc i ≡ (k + 1) + i = omega arith in h (suc i) x e w ∙ ap (λ (n : ℕ). given_if turn (given n) w) same) v
  folded_from k (Some x ∷ slots) h v =
      let ids = ids_from (k + 1) slots in
      let here : k + 0 ≡ k = omega arith in
      let rest = folded_from (k + 1) slots (λ i y e w. let same : k + suc i ≡ (k + 1) + i = omega arith in h (suc i) y e w ∙ ap (λ (n : ℕ). given_if turn (given n) w) same) in
      rest (step v x)
      ∙ ap (λ (w : V). fold turn w (filter_map given ids)) (h 0 x refl v ∙ ap (λ (n : ℕ). given_if turn (given n) v) here)
      ∙ one_given (given k) v ids

  pub folded : (slots : List (Option A)) → ((n : ℕ) (x : A) → slice_index_or slots n None ≡ Some x → (v : V) → step v x ≡ given_if turn (given n) v) → (v : V)
      → fold step v (map (λ (e : ℕ × A). e.1) (entries_from 0 slots)) ≡ fold turn v (filter_map given (living slots))
  folded slots h v = folded_from 0 slots (λ i x e w. let same : i ≡ 0 + i = omega arith in h i x e w ∙ ap (λ (n : ℕ). given_if turn (given n) w) same) v

-- those that pass are what is given where only they give themselves
pub passed : (test : ℕ → Bool) (ns : List ℕ) → filter_map (λ n. if test n then Some n else None) ns ≡ filter test ns
passed test [] = refl
passed test (n ∷ ns) = one (test n) ∙ ap (λ (l : List ℕ). cond (test n) (n ∷ l) l) (passed test ns)
  where
    one : (b : Bool) → cons_option (if b then Some n else None) (filter_map (λ n. if test n then Some n else None) ns)
        ≡ cond b (n ∷ filter_map (λ n. if test n then Some n else None) ns) (filter_map (λ n. if test n then Some n else None) ns)
    one true = refl
    one false = refl

pub all_given : (ns : List ℕ) → filter_map (λ n. Some n) ns ≡ ns
all_given [] = refl
all_given (n ∷ ns) = ap (λ (l : List ℕ). n ∷ l) (all_given ns)

-- Sections, one id after the other.
use Rattle.std.proofs.Common.{Bool, true, false, ◌≡◌, ◌∙◌, ◌⊎◌, ◌+◌, ◌≤◌, ◌<◌, ℕ, zero, suc, List, [], ◌∷◌, length, map, get_or, Option, Some, None, Contains, refl, sym, subst, inl, inr, arith}
use Rattle.std.specs.Prelude.{IsSome}
use Rattle.std.proofs.lemmas.Bool.{cases_eq, cases_lt}
use Rattle.walrus_arena.specs.Arena.{Arena, IsLive, entries_from, ids, item_at}
use Rattle.walrus_sections.specs.declared.section.Section.{Section}
use Rattle.walrus_lookups.specs.Customs.{IsRetained, Stays}

-- ---- live ids are among the ids
later : (y : ℕ) (xs : List ℕ) (x : ℕ) → Contains xs x → Contains (y ∷ xs) x
later y xs x c = (suc c.0, omega (arith, c.1), c.2)

module _ {T : Type 0} where
  abbrev ids_from : ℕ → List (Option T) → List ℕ
  ids_from k slots = map (λ (e : ℕ × T). e.0) (entries_from k slots)

  in_ids : (k : ℕ) (slots : List (Option T)) (n : ℕ) → IsSome (get_or slots n None) → Contains (ids_from k slots) (k + n)
  in_ids k [] n live = absurd cc
  in_ids k (None ∷ slots) zero live = absurd cc
  in_ids k (Some t ∷ slots) zero live = (0, omega arith, omega arith)
  in_ids k (None ∷ slots) (suc n) live = subst (λ (i : ℕ). Contains (ids_from (k + 1) slots) i) (omega arith) (in_ids (k + 1) slots n live)
  in_ids k (Some t ∷ slots) (suc n) live = later k (ids_from (k + 1) slots) (k + suc n) (subst (λ (i : ℕ). Contains (ids_from (k + 1) slots) i) (omega arith) (in_ids (k + 1) slots n live))

  pub live_listed : (a : Arena T) (id : ℕ) → IsLive a id → Contains (ids a) id
  live_listed a id live = subst (λ (i : ℕ). Contains (ids a) i) (omega arith) (in_ids 0 a.slots id live)

-- ---- a number past the ids that were met
-- each is below the number, or one of those that are left
abbrev pub Past : {T : Type 0} → Arena T → ℕ → List ℕ → Type 0
Past a past left = (id : ℕ) → IsLive a id → (id < past) ⊎ Contains left id

-- ---- one id after the other
module _ {B : Type 0} (names : B → List ℕ) (Answers : List ℕ → Bool → Type 0) where
  abbrev Kept : Option (Section B) → Option (Section B) → Type 0
  Kept old new = IsRetained names Answers old new

  -- what is answered of a section decides of it
  pub stayed : (o n : Option (Section B)) → Stays names Answers o true → n ≡ o → Kept o n
  stayed None n h same = same
  stayed (Some section) n h same = (true, h, same)

  pub gone : (o n : Option (Section B)) → Stays names Answers o false → n ≡ None → Kept o n
  gone None n h none = none
  gone (Some section) n h none = (false, h, none)

  -- the ids below the number were gone through
  pub record Swept (n : ℕ) (old new : Arena (Section B)) : Type 0 where
    pub done : (id : ℕ) → id < n → IsRetained names Answers (item_at old id) (item_at new id)
    pub left : (id : ℕ) → n ≤ id → item_at new id ≡ item_at old id
    pub sized : length new.slots ≡ length old.slots

  pub swept_none : (a : Arena (Section B)) → Swept 0 a a
  swept_none a = record { done = λ id below. absurd (omega (arith, below)); left = λ id le. refl; sized = refl }

  pub swept_more : (n id : ℕ) (a b c : Arena (Section B)) → id ≡ n → Swept n a b → IsRetained names Answers (item_at b id) (item_at c id) → ((other : ℕ) → (other ≡ id → ⊥) → item_at c other ≡ item_at b other) → length c.slots ≡ length b.slots → Swept (n + 1) a c
  swept_more n id a b c is h here others sized = record {
    done = λ k below. elim (cases_eq k id) as (λ _. Kept (item_at a k) (item_at c k)) [
      | inl same ↦
          let at_id = subst (λ (o : Option (Section B)). Kept o (item_at c id)) (h.left id (omega (arith, is))) here in
          subst (λ (i : ℕ). Kept (item_at a i) (item_at c i)) (sym same) at_id
      | inr other ↦ subst (λ (o : Option (Section B)). Kept (item_at a k) o) (sym (others k other)) (h.done k (omega (arith, below, is, other)))
    ];
    left = λ k le. others k (λ same. omega (arith, same, is, le)) ∙ h.left k (omega (arith, le));
    sized = sized ∙ h.sized;
  }

  dead_kept : (o n : Option (Section B)) → (IsSome o → ⊥) → n ≡ o → Kept o n
  dead_kept None n dead same = same
  dead_kept (Some section) n dead same = absurd (dead refl)

  pub swept_all : (n : ℕ) (a b : Arena (Section B)) → ((id : ℕ) → IsLive a id → id < n) → Swept n a b → (id : ℕ) → IsRetained names Answers (item_at a id) (item_at b id)
  swept_all n a b past h id = elim (cases_lt id n) as (λ _. Kept (item_at a id) (item_at b id)) [
    | inl below ↦ h.done id below
    | inr le ↦ dead_kept (item_at a id) (item_at b id) (λ live. (let inside = past id live in omega (arith, inside, le))) (h.left id le)
  ]

at_cases : (y : ℕ) (xs : List ℕ) (x k : ℕ) → k < length (y ∷ xs) → get_or (y ∷ xs) k x ≡ x → (y ≡ x) ⊎ Contains xs x
at_cases y xs x zero below e = inl e
at_cases y xs x (suc k) below e = inr (k, omega arith, e)

pub past_more : {T : Type 0} (a : Arena T) (past new id : ℕ) (xs rest : List ℕ) → xs ≡ id ∷ rest → past ≤ new → id < new → Past a past xs → Past a new rest
past_more a past new id xs rest is le lt h k live = elim (h k live) as (λ _. (k < new) ⊎ Contains rest k) [
  | inl below ↦ inl (omega (arith, below, le))
  | inr c ↦
      let c = subst (λ (zs : List ℕ). Contains zs k) is c in
      elim (at_cases id rest k c.0 c.1 c.2) as (λ _. (k < new) ⊎ Contains rest k) [ inl same ↦ inl (omega (arith, lt, same)) | inr more ↦ inr more ]
]

pub all_past : {T : Type 0} (a : Arena T) (past : ℕ) (left : List ℕ) → left ≡ [] → Past a past left → (id : ℕ) → IsLive a id → id < past
all_past a past left none h id live = elim (h id live) as (λ _. id < past) [
  | inl below ↦ below
  | inr c ↦ absurd (let c = subst (λ (zs : List ℕ). Contains zs id) none c in omega (arith, c.1))
]

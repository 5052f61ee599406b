-- What is reached part by part, and asked.
use Rattle.std.proofs.Common.{◌≡◌, ◌∙◌, ◌⊎◌, ◌+◌, ℕ, List, Bool, true, false, [], ◌∷◌, ◌++◌, length, get_or, Some, None, Option, Contains, refl, sym, ap, subst, inl, inr, arith}
use Rattle.std.specs.Prelude.{◌↔◌, IsTrue}
use Rattle.std.specs.Bool.{OnTrue}
use Rattle.std.specs.List.{fold}
use Rattle.std.proofs.lemmas.List.{get_or_past}
use Rattle.std.proofs.lemmas.List.Elements.{Contains-push_cases}
use Rattle.std.proofs.lemmas.Bool.{cases_eq, cases_lt, false≢true, OnTrue_at, OnTrue_from}
use Rattle.walrus_roots.specs.declared.item.Item.{Item}
use Rattle.walrus_roots.specs.Items.{space_number}
use Rattle.walrus_marks.specs.Marks.{Met, Missing, State, is_claimed, meet, flags_of, met_none}
use Rattle.walrus_marks.specs.Chains.{Chain, root, refers, FitsIn, Lacks, Meets, IsReached}
use Rattle.walrus_marks.proofs.MarkLemmas.{IsMarked}
use Rattle.walrus_marks.proofs.MetLemmas.{Grows, all_met, claimed_or_not, fold_claimed, fold_met, missing_is, none_missing, unclaimed, empty}
use Rattle.walrus_marks.proofs.ReachLemmas.{IfClaimed, IsKnown, Looked, Sweeps, none_claimed, sweeps_begin, sweeps_turn, sweeps_end}
use Rattle.walrus_used.specs.Asked.{AllHold}
use Rattle.walrus_used.specs.Picks.{Below}
use Rattle.walrus_used.proofs.MeetsLemmas.{meets_none}

-- what is marked has a flag
marked_fits : (counts : List ℕ) (marks : List (List Bool)) → ((x : Item) → length (flags_of marks x) ≡ get_or counts (space_number x.space) 0) → (x : Item) → IsMarked marks x → FitsIn counts x
marked_fits counts marks sized x h = elim (cases_lt x.id (length (flags_of marks x))) as (λ _. FitsIn counts x) [
  | inl below ↦ omega (arith, below, sized x)
  | inr past ↦ absurd (false≢true (sym (get_or_past (flags_of marks x) x.id false past) ∙ h))
]

-- what grows where these are met
grows_by : (s t : State) (fs : List Item) → t ≡ fold meet s fs → Grows s.met t.met fs
grows_by s t fs met = subst (λ (u : Met). Grows s.met u fs) (sym (ap (λ (u : State). u.met) met ∙ fold_met fs s)) (all_met fs s.met)

same_state : (s r : State) → r.met.marks ≡ s.met.marks → s.met.work ≡ r.met.work → r.missing ≡ s.missing → s ≡ r
same_state s r p q m = λ i. record { met = record { marks = sym p i; work = q i }; missing = sym m i }

-- where there are no roots, nothing is reached
unreached : (Root : Item → Type 0) (Refers : Item → Item → Type 0) → ((x : Item) → Root x → ⊥) → (x : Item) → Chain Root Refers x → ⊥
unreached Root Refers none x (root r) = none x r
unreached Root Refers none y (refers {x} k r) = unreached Root Refers none x k

-- more roots, more chains
pub chain_wider : (Root Wider : Item → Type 0) (Refers : Item → Item → Type 0) → ((x : Item) → Root x → Wider x) → (x : Item) → Chain Root Refers x → Chain Wider Refers x
chain_wider Root Wider Refers wide x (root r) = root (wide x r)
chain_wider Root Wider Refers wide y (refers {x} k r) = refers (chain_wider Root Wider Refers wide x k) r

-- more roots are met
module _ (counts : List ℕ) (Root More Wider : Item → Type 0) (Refers : Item → Item → Type 0) (are : (x : Item) → Wider x ↔ (Root x ⊎ More x)) (s t : State) (met : Meets More s t) (h : Sweeps counts Root Refers s) where
  more_grows : Grows s.met t.met met.items
  more_grows = grows_by s t met.items met.met

  still_chained : (x : Item) → Chain Root Refers x → Chain Wider Refers x
  still_chained x k = chain_wider Root Wider Refers (λ y r. (are y).1 (inl r)) x k

  new_root : (x : Item) → Contains met.items x → Chain Wider Refers x
  new_root x c = root ((are x).1 (inr ((met.are x).0 c)))

  looked_more : (P : Item → Type 0) → ((x : Item) → Contains met.items x → P x) → Looked counts Root Refers P s.met → Looked counts Wider Refers P t.met
  looked_more P all before = (
    λ x r. elim ((are x).0 r) as (λ _. P x) [ inl old ↦ before.0 x old | inr m ↦ all x ((met.are x).1 m) ],
    λ x y m r. elim (more_grows.fresh x m) as (λ _. P y ⊎ Contains t.met.work x) [
      | inl old ↦ elim (before.1 x y old r) as (λ _. P y ⊎ Contains t.met.work x) [ inl so ↦ inl so | inr waits ↦ inr (more_grows.waiting x waits) ]
      | inr d ↦ inr d
    ],
  )

  claimed_same : t.missing.claimed ≡ s.missing.claimed
  claimed_same = ap (λ (u : State). u.missing.claimed) met.met ∙ fold_claimed met.items s

  claimed_more : (j : Item) → t.missing.item ≡ Some j → IsTrue (is_claimed t.missing.claimed j) ⊎ Looked counts Wider Refers (IfClaimed counts Wider Refers t.missing.claimed) t.met
  claimed_more j e = elim (claimed_or_not t.missing.claimed j) as (λ _. IsTrue (is_claimed t.missing.claimed j) ⊎ Looked counts Wider Refers (IfClaimed counts Wider Refers t.missing.claimed) t.met) [
    | inl claims ↦ inl claims
    | inr not ↦
        let none = unclaimed met.items s j (sym (ap (λ (u : State). u.missing.item) met.met) ∙ e) (ap (λ (c : List (List ℕ)). is_claimed c j) (sym claimed_same) ∙ not) in
        let before = none_claimed counts Root Refers s.missing.claimed s.met s.missing.item none.1 h.known in
        inr (subst (λ (c : List (List ℕ)). Looked counts Wider Refers (IfClaimed counts Wider Refers c) t.met) (sym claimed_same)
        (looked_more (IfClaimed counts Root Refers s.missing.claimed) (λ y c is. omega (arith, none.0 y c is, h.sized y)) before))
  ]

  known_more : (o : Option Item) → t.missing.item ≡ o → IsKnown counts Wider Refers t.missing.claimed t.met o
  known_more None e =
      let all = none_missing met.items s (sym (ap (λ (u : State). u.missing.item) met.met) ∙ e) in
      let before : IsKnown counts Root Refers s.missing.claimed s.met None = subst (IsKnown counts Root Refers s.missing.claimed s.met) all.1 h.known in
      looked_more (FitsIn counts) (λ x c. omega (arith, all.0 x c, h.sized x)) before
  known_more (Some j) e = elim (missing_is met.items s j (sym (ap (λ (u : State). u.missing.item) met.met) ∙ e)) as (λ _. IsKnown counts Wider Refers t.missing.claimed t.met (Some j)) [
    | inl old ↦ (let before : IsKnown counts Root Refers s.missing.claimed s.met (Some j) = subst (IsKnown counts Root Refers s.missing.claimed s.met) old h.known in (still_chained j before.0, before.1, claimed_more j e))
    | inr n ↦ (new_root j n.0, λ fits. n.1 (omega (arith, fits, h.sized j)), claimed_more j e)
  ]

  pub sweeps_more : Sweeps counts Wider Refers t
  sweeps_more =
      let sized : (x : Item) → length (flags_of t.met.marks x) ≡ get_or counts (space_number x.space) 0 = λ x. more_grows.sized x ∙ h.sized x in
      record {
        sized = sized;
        sound = λ x m. elim (more_grows.only x m) as (λ _. Chain Wider Refers x × FitsIn counts x) [
          | inl old ↦ (still_chained x (h.sound x old).0, (h.sound x old).1)
          | inr c ↦ (new_root x c, marked_fits counts t.met.marks sized x m)
        ];
        rooted = λ x r fits. elim ((are x).0 r) as (λ _. IsMarked t.met.marks x) [
          | inl old ↦ more_grows.still x (h.rooted x old fits)
          | inr m ↦ more_grows.each x ((met.are x).1 m) (omega (arith, fits, h.sized x))
        ];
        pending = λ x c. elim (more_grows.from x c) as (λ _. IsMarked t.met.marks x) [ inl d ↦ more_grows.still x (h.pending x d) | inr m ↦ m ];
        closed = λ x y m r fits. elim (more_grows.fresh x m) as (λ _. IsMarked t.met.marks y ⊎ Contains t.met.work x) [
          | inl old ↦ elim (h.closed x y old r fits) as (λ _. IsMarked t.met.marks y ⊎ Contains t.met.work x) [ inl there ↦ inl (more_grows.still y there) | inr waits ↦ inr (more_grows.waiting x waits) ]
          | inr d ↦ inr d
        ];
        known = known_more t.missing.item refl;
      }

-- ---- what is asked of each item
-- it holds of what is marked, where that is not still to be looked at
abbrev pub AllAsked : (Item → Type 0) → State → Type 0
AllAsked holds s = (x : Item) → IsMarked s.met.marks x → holds x ⊎ Contains s.met.work x

module _ (holds : Item → Type 0) (Named : Item → Type 0) where
  pub asked_more : (s t : State) → Meets Named s t → AllAsked holds s → AllAsked holds t
  asked_more s t met h = λ x m. (let grows = grows_by s t met.items met.met in elim (grows.fresh x m) as (λ _. holds x ⊎ Contains t.met.work x) [
    | inl old ↦ elim (h x old) as (λ _. holds x ⊎ Contains t.met.work x) [ inl so ↦ inl so | inr waits ↦ inr (grows.waiting x waits) ]
    | inr d ↦ inr d
  ])

-- of one more that was taken
pub asked_taken : (holds : Item → Type 0) (s r : State) (i : Item) → r.met.marks ≡ s.met.marks → s.met.work ≡ r.met.work ++ i ∷ [] → holds i → AllAsked holds s → AllAsked holds r
asked_taken holds s r i same is so h = λ x m. elim (h x (subst (λ (marks : List (List Bool)). IsMarked marks x) same m)) as (λ _. holds x ⊎ Contains r.met.work x) [
  | inl old ↦ inl old
  | inr waits ↦ elim (Contains-push_cases r.met.work i x (subst (λ (w : List Item). Contains w x) is waits)) as (λ _. holds x ⊎ Contains r.met.work x) [ inl d ↦ inr d | inr e ↦ inl (subst holds e so) ]
]

-- ---- the loops
module _ (counts : List ℕ) (claimed : List (List ℕ)) (P : ℕ → Item → Type 0) (Refers : Item → Item → Type 0) (holds : Item → Type 0) where
  -- what the parts below n reach is marked but for what is still to be looked at, and what is asked holds of it, where that is said
  pub record Asks (n : ℕ) (b : Bool) (s : State) : Type 0 where
    pub sweeps : Sweeps counts (Below P n) Refers s
    pub claims : s.missing.claimed ≡ claimed
    pub asked : OnTrue b (AllAsked holds s)

  none_first : (x : Item) → Below P 0 x → ⊥
  none_first x h = omega (arith, h.1)

  begun : (s : State) → s ≡ met_none counts claimed → Sweeps counts (Below P 0) Refers s
  begun s is = sweeps_begin counts claimed (Below P 0) Refers s s is (meets_none (Below P 0) s s none_first refl)

  pub asks_none : (s : State) → s ≡ met_none counts claimed → Asks 0 true s × (s.met.work ≡ [])
  asks_none s is = (
    record { sweeps = begun s is; claims = ap (λ (u : State). u.missing.claimed) is; asked = λ x m. absurd (unreached (Below P 0) Refers none_first x ((begun s is).sound x m).0) },
    ap (λ (u : State). u.met.work) is,
  )

  below_split : (n : ℕ) (x : Item) → Below P (n + 1) x ↔ (Below P n x ⊎ P n x)
  below_split n x = (
    λ h. elim (cases_eq h.0 n) as (λ _. Below P n x ⊎ P n x) [ inl e ↦ inr (subst (λ k. P k x) e h.2) | inr other ↦ inl (h.0, omega (arith, h.1, other), h.2) ],
    λ h. elim h as (λ _. Below P (n + 1) x) [ inl l ↦ (l.0, omega (arith, l.1), l.2) | inr r ↦ (n, omega arith, r) ],
  )

  claims_still : (Named : Item → Type 0) (s t : State) → Meets Named s t → t.missing.claimed ≡ s.missing.claimed
  claims_still Named s t met = ap (λ (u : State). u.missing.claimed) met.met ∙ fold_claimed met.items s

  -- one more part is met
  pub asks_more : (n : ℕ) (b : Bool) (s t : State) → Meets (P n) s t → Asks n b s → Asks (n + 1) b t
  asks_more n b s t met h = record {
    sweeps = sweeps_more counts (Below P n) (P n) (Below P (n + 1)) Refers (below_split n) s t met h.sweeps;
    claims = claims_still (P n) s t met ∙ h.claims;
    asked = OnTrue_from b (AllAsked holds t) (λ e. asked_more holds (P n) s t met (OnTrue_at e h.asked));
  }

  -- one is taken, and what it names is met
  module _ (n : ℕ) (b c : Bool) (s r t : State) (i : Item) (same : r.met.marks ≡ s.met.marks) (was : r.missing ≡ s.missing) (is : s.met.work ≡ r.met.work ++ i ∷ []) (met : Meets (Refers i) r t) where
    pub asks_turn : OnTrue c (IsTrue b × holds i) → Asks n b s → Asks n c t
    asks_turn so h = record {
      sweeps = sweeps_turn counts (Below P n) Refers s r t i same was is met h.sweeps;
      claims = claims_still (Refers i) r t met ∙ ap (λ (m : Missing). m.claimed) was ∙ h.claims;
      asked = OnTrue_from c (AllAsked holds t) (λ e. (let both : IsTrue b × holds i = OnTrue_at e so in asked_more holds (Refers i) r t met (asked_taken holds s r i same is both.1 (OnTrue_at both.0 h.asked))));
    }

  -- nothing is left to be taken
  pub asks_idle : (n : ℕ) (b : Bool) (s r : State) → r.met.marks ≡ s.met.marks → r.missing ≡ s.missing → (s.met.work ≡ []) × (r.met.work ≡ []) → Asks n b s → Asks n b r × (r.met.work ≡ [])
  asks_idle n b s r same was idle h = (subst (Asks n b) (same_state s r same (idle.0 ∙ sym idle.1) was) h, idle.1)

  -- all parts are met
  module _ (Root : Item → Type 0) (n : ℕ) (are : (x : Item) → Root x ↔ Below P n x) (s : State) (idle : s.met.work ≡ []) where
    there : (x : Item) → Chain (Below P n) Refers x → Chain Root Refers x
    there x k = chain_wider (Below P n) Root Refers (λ y r. (are y).1 r) x k

    back : (x : Item) → Chain Root Refers x → Chain (Below P n) Refers x
    back x k = chain_wider Root (Below P n) Refers (λ y r. (are y).0 r) x k

    said_back : (o : Option Item) → Lacks counts (Below P n) Refers (record { item = o; claimed = s.missing.claimed }) → Lacks counts Root Refers (record { item = o; claimed = s.missing.claimed })
    said_back None all = λ x k. all x (back x k)
    said_back (Some i) one = (
      there i one.0,
      one.1,
      elim one.2 as (λ _. IsTrue (is_claimed s.missing.claimed i) ⊎ ((x : Item) → Chain Root Refers x → IsTrue (is_claimed s.missing.claimed x) → FitsIn counts x)) [
        | inl claims ↦ inl claims
        | inr all ↦ inr (λ x k. all x (back x k))
      ],
    )

    pub asks_reached : (fit : (x y : Item) → Refers x y → FitsIn counts x) (b : Bool) → Asks n b s → IsReached counts Root Refers s
    asks_reached fit b h =
        let r = sweeps_end counts (Below P n) Refers fit s idle h.sweeps in
        record {
          marked = λ x. (λ m. (let both = (r.marked x).0 m in (there x both.0, both.1)), λ both. (r.marked x).1 (back x both.0, both.1));
          missing = said_back s.missing.item r.missing;
        }

  pub asks_asked : (n : ℕ) (b : Bool) (s : State) → s.met.work ≡ [] → Asks n b s → OnTrue b (AllHold holds s)
  asks_asked n b s idle h = OnTrue_from b (AllHold holds s) (λ e x m. elim (OnTrue_at e h.asked x m) as (λ _. holds x) [
    | inl so ↦ so
    | inr waits ↦ absurd (empty x (subst (λ (w : List Item). Contains w x) idle waits))
  ])

-- What is reached is what the loop marks.
use Rattle.std.proofs.Common.{◌≡◌, ◌∙◌, ◌⊎◌, ◌+◌, ◌<◌, ℕ, zero, suc, List, Bool, true, false, [], ◌∷◌, ◌++◌, length, get_or, map, Some, None, Option, Contains, refl, sym, ap, subst, inl, inr, arith, length-append}
use Rattle.std.specs.Prelude.{replicate, ◌↔◌, IsTrue}
use Rattle.std.specs.List.{fold}
use Rattle.std.proofs.lemmas.List.{get_or-replicate, get_or_past, length-replicate}
use Rattle.std.proofs.lemmas.List.Elements.{Contains-push, Contains-push_cases, Contains-append_left}
use Rattle.std.proofs.lemmas.Bool.{cases_lt, false≢true}
use Rattle.walrus_roots.specs.declared.item.Item.{Item}
use Rattle.walrus_roots.specs.Items.{space_number}
use Rattle.walrus_marks.specs.Marks.{Met, Missing, State, is_claimed, meet, flags_of, is_marked, left_out, met_none}
use Rattle.walrus_marks.specs.Chains.{Chain, root, refers, FitsIn, Lacks, Meets, IsReached}
use Rattle.walrus_marks.proofs.MarkLemmas.{IsMarked}
use Rattle.walrus_marks.proofs.MetLemmas.{Grows, all_met, claimed_or_not, fold_claimed, fold_met, missing_is, none_missing, unclaimed, empty}

-- flags of no item
unset : (n i : ℕ) → get_or (replicate n false) i false ≡ true → ⊥
unset n i h = elim (cases_lt i n) as (λ _. ⊥) [
  | inl below ↦ false≢true (sym (get_or-replicate n i false false below) ∙ h)
  | inr past ↦ false≢true (sym (get_or_past (replicate n false) i false (omega (arith, length-replicate n false))) ∙ h)
]

none_flags : (counts : List ℕ) → List (List Bool)
none_flags counts = map (λ n. replicate n false) counts

none_at : (counts : List ℕ) (k : ℕ) → (n : ℕ) × (get_or (map (λ (n : ℕ). replicate n false) counts) k [] ≡ replicate n false) × (n ≡ get_or counts k 0)
none_at [] k = (0, refl, refl)
none_at (n ∷ counts) zero = (n, refl, refl)
none_at (n ∷ counts) (suc k) = none_at counts k

unmarked : (counts : List ℕ) (claimed : List (List ℕ)) (x : Item) → IsMarked (met_none counts claimed).met.marks x → ⊥
unmarked counts claimed x h = let at = none_at counts (space_number x.space) in unset at.0 x.id (sym (ap (λ fs. get_or fs x.id false) at.1) ∙ h)

none_sized : (counts : List ℕ) (claimed : List (List ℕ)) (x : Item) → length (flags_of (met_none counts claimed).met.marks x) ≡ get_or counts (space_number x.space) 0
none_sized counts claimed x = let at = none_at counts (space_number x.space) in ap length at.1 ∙ length-replicate at.0 false ∙ at.2

module _ (counts : List ℕ) (Root : Item → Type 0) (Refers : Item → Item → Type 0) where
  -- all that was looked for so far is so
  abbrev pub Looked : (Item → Type 0) → Met → Type 0
  Looked P s = ((x : Item) → Root x → P x) × ((x y : Item) → IsMarked s.marks x → Refers x y → P y ⊎ Contains s.work x)

  -- what is claimed is there
  abbrev pub IfClaimed : List (List ℕ) → Item → Type 0
  IfClaimed claimed x = IsTrue (is_claimed claimed x) → FitsIn counts x

  -- all that was looked for so far is there, or one is known that isn't: a claimed one, or all that is claimed is there
  abbrev pub IsKnown : List (List ℕ) → Met → Option Item → Type 0
  IsKnown claimed s None = Looked (FitsIn counts) s
  IsKnown claimed s (Some i) = Chain Root Refers i × (FitsIn counts i → ⊥) × (IsTrue (is_claimed claimed i) ⊎ Looked (IfClaimed claimed) s)

  abbrev pub Known : Met → Missing → Type 0
  Known s m = IsKnown m.claimed s m.item

  -- where one is known that isn't claimed, or none, all that is claimed is there
  pub none_claimed : (claimed : List (List ℕ)) (s : Met) (o : Option Item) → ((j : Item) → o ≡ Some j → is_claimed claimed j ≡ false) → IsKnown claimed s o → Looked (IfClaimed claimed) s
  none_claimed claimed s None not known = (λ x r _. known.0 x r, λ x y m r. elim (known.1 x y m r) as (λ _. IfClaimed claimed y ⊎ Contains s.work x) [ inl fits ↦ inl (λ _. fits) | inr waits ↦ inr waits ])
  none_claimed claimed s (Some j) not known = elim known.2 as (λ _. Looked (IfClaimed claimed) s) [ inl is ↦ absurd (false≢true (sym (not j refl) ∙ is)) | inr looked ↦ looked ]

  -- the loop's invariant: only what is reached is marked; roots are, and what a marked one names, where that one is not still to be looked at
  pub record Sweeps (s : State) : Type 0 where
    pub sized : (x : Item) → length (flags_of s.met.marks x) ≡ get_or counts (space_number x.space) 0
    pub sound : (x : Item) → IsMarked s.met.marks x → Chain Root Refers x × FitsIn counts x
    pub rooted : (x : Item) → Root x → FitsIn counts x → IsMarked s.met.marks x
    pub pending : (x : Item) → Contains s.met.work x → IsMarked s.met.marks x
    pub closed : (x y : Item) → IsMarked s.met.marks x → Refers x y → FitsIn counts y → IsMarked s.met.marks y ⊎ Contains s.met.work x
    pub known : Known s.met s.missing

-- what is marked has a flag
marked_fits : (counts : List ℕ) (marks : List (List Bool)) → ((x : Item) → length (flags_of marks x) ≡ get_or counts (space_number x.space) 0) → (x : Item) → IsMarked marks x → FitsIn counts x
marked_fits counts marks sized x h = elim (cases_lt x.id (length (flags_of marks x))) as (λ _. FitsIn counts x) [
  | inl below ↦ omega (arith, below, sized x)
  | inr past ↦ absurd (false≢true (sym (get_or_past (flags_of marks x) x.id false past) ∙ h))
]

-- what grows where these are met
grows_by : (s t : State) (fs : List Item) → t ≡ fold meet s fs → Grows s.met t.met fs
grows_by s t fs met = subst (λ (u : Met). Grows s.met u fs) (sym (ap (λ (u : State). u.met) met ∙ fold_met fs s)) (all_met fs s.met)

module _ (counts : List ℕ) (claimed : List (List ℕ)) (Root : Item → Type 0) (Refers : Item → Item → Type 0) (s t : State) (is : s ≡ met_none counts claimed) (met : Meets Root s t) where
  from_none : t ≡ fold meet (met_none counts claimed) met.items
  from_none = met.met ∙ ap (λ (u : State). fold meet u met.items) is

  same_claimed : t.missing.claimed ≡ claimed
  same_claimed = ap (λ (u : State). u.missing.claimed) from_none ∙ fold_claimed met.items (met_none counts claimed)

  looked_first : (P : Item → Type 0) → ((x : Item) → Contains met.items x → P x) → Looked counts Root Refers P t.met
  looked_first P all =
      let grows = grows_by (met_none counts claimed) t met.items from_none in (
        λ x r. all x ((met.are x).1 r),
        λ x y h r. elim (grows.fresh x h) as (λ _. P y ⊎ Contains t.met.work x) [ inl old ↦ absurd (unmarked counts claimed x old) | inr d ↦ inr d ],
      )

  claimed_first : (i : Item) → t.missing.item ≡ Some i → IsTrue (is_claimed t.missing.claimed i) ⊎ Looked counts Root Refers (IfClaimed counts Root Refers t.missing.claimed) t.met
  claimed_first i e = elim (claimed_or_not t.missing.claimed i) as (λ _. IsTrue (is_claimed t.missing.claimed i) ⊎ Looked counts Root Refers (IfClaimed counts Root Refers t.missing.claimed) t.met) [
    | inl claims ↦ inl claims
    | inr not ↦
        let all = (unclaimed met.items (met_none counts claimed) i (sym (ap (λ (u : State). u.missing.item) from_none) ∙ e) (ap (λ (c : List (List ℕ)). is_claimed c i) (sym same_claimed) ∙ not)).0 in
        inr (looked_first (IfClaimed counts Root Refers t.missing.claimed) (λ x c is. omega (arith, all x c (ap (λ (c : List (List ℕ)). is_claimed c x) (sym same_claimed) ∙ is), none_sized counts claimed x)))
  ]

  known_begins : (o : Option Item) → t.missing.item ≡ o → IsKnown counts Root Refers t.missing.claimed t.met o
  known_begins None e =
      let all = none_missing met.items (met_none counts claimed) (sym (ap (λ (u : State). u.missing.item) from_none) ∙ e) in
      looked_first (FitsIn counts) (λ x c. omega (arith, all.0 x c, none_sized counts claimed x))
  known_begins (Some i) e = elim (missing_is met.items (met_none counts claimed) i (sym (ap (λ (u : State). u.missing.item) from_none) ∙ e)) as (λ _. IsKnown counts Root Refers t.missing.claimed t.met (Some i)) [
    | inl old ↦ absurd (let none : None ≡ Some i = old in cc)
    | inr h ↦ (root ((met.are i).0 h.0), λ fits. h.1 (omega (arith, fits, none_sized counts claimed i)), claimed_first i e)
  ]

  pub sweeps_begin : Sweeps counts Root Refers t
  sweeps_begin =
      let grows = grows_by (met_none counts claimed) t met.items from_none in
      let sized : (x : Item) → length (flags_of t.met.marks x) ≡ get_or counts (space_number x.space) 0 = λ x. grows.sized x ∙ none_sized counts claimed x in
      record {
        sized = sized;
        sound = λ x h. elim (grows.only x h) as (λ _. Chain Root Refers x × FitsIn counts x) [
          | inl old ↦ absurd (unmarked counts claimed x old)
          | inr c ↦ (root ((met.are x).0 c), marked_fits counts t.met.marks sized x h)
        ];
        rooted = λ x r fits. grows.each x ((met.are x).1 r) (omega (arith, fits, none_sized counts claimed x));
        pending = λ x c. elim (grows.from x c) as (λ _. IsMarked t.met.marks x) [ inl none ↦ absurd (empty x none) | inr h ↦ h ];
        closed = λ x y h r fits. elim (grows.fresh x h) as (λ _. IsMarked t.met.marks y ⊎ Contains t.met.work x) [ inl old ↦ absurd (unmarked counts claimed x old) | inr d ↦ inr d ];
        known = known_begins t.missing.item refl;
      }

same_state : (s : State) (marks : List (List Bool)) (work : List Item) (missing : Missing) → marks ≡ s.met.marks → s.met.work ≡ work → missing ≡ s.missing → s ≡ record { met = record { marks = marks; work = work }; missing = missing }
same_state s marks work missing p q r = λ i. record { met = record { marks = sym p i; work = q i }; missing = sym r i }

module _ (counts : List ℕ) (Root : Item → Type 0) (Refers : Item → Item → Type 0) where
  -- a turn: the last of what is to be looked at is taken, and what it names is met
  module _ (marks : List (List Bool)) (work : List Item) (missing : Missing) (i : Item) (t : State) (met : Meets (Refers i) (record { met = record { marks = marks; work = work }; missing = missing }) t)
      (h : Sweeps counts Root Refers (record { met = record { marks = marks; work = work ++ i ∷ [] }; missing = missing })) where
    grows : Grows (record { marks = marks; work = work }) t.met met.items
    grows = grows_by (record { met = record { marks = marks; work = work }; missing = missing }) t met.items met.met

    reached : Chain Root Refers i
    reached = (h.sound i (h.pending i (Contains-push work i))).0

    -- the states before the item was taken, and behind
    abbrev before_it : Met
    before_it = record { marks = marks; work = work ++ i ∷ [] }

    abbrev behind_it : State
    behind_it = record { met = record { marks = marks; work = work }; missing = missing }

    claimed_still : t.missing.claimed ≡ missing.claimed
    claimed_still = ap (λ (u : State). u.missing.claimed) met.met ∙ fold_claimed met.items behind_it

    looked_on : (P : Item → Type 0) → ((y : Item) → Contains met.items y → P y) → Looked counts Root Refers P before_it → Looked counts Root Refers P t.met
    looked_on P all before = (
      before.0,
      λ x y m r. elim (grows.fresh x m) as (λ _. P y ⊎ Contains t.met.work x) [
        | inl old ↦ elim (before.1 x y old r) as (λ _. P y ⊎ Contains t.met.work x) [
          | inl so ↦ inl so
          | inr waits ↦ elim (Contains-push_cases work i x waits) as (λ _. P y ⊎ Contains t.met.work x) [
            | inl d ↦ inr (grows.waiting x d)
            | inr e ↦ inl (all y ((met.are y).1 (subst (λ z. Refers z y) (sym e) r)))
          ]
        ]
        | inr d ↦ inr d
      ],
    )

    claimed_on : (j : Item) → t.missing.item ≡ Some j → IsTrue (is_claimed t.missing.claimed j) ⊎ Looked counts Root Refers (IfClaimed counts Root Refers t.missing.claimed) t.met
    claimed_on j e = elim (claimed_or_not t.missing.claimed j) as (λ _. IsTrue (is_claimed t.missing.claimed j) ⊎ Looked counts Root Refers (IfClaimed counts Root Refers t.missing.claimed) t.met) [
      | inl claims ↦ inl claims
      | inr not ↦
          let none = unclaimed met.items behind_it j (sym (ap (λ (u : State). u.missing.item) met.met) ∙ e) (ap (λ (c : List (List ℕ)). is_claimed c j) (sym claimed_still) ∙ not) in
          let before : Looked counts Root Refers (IfClaimed counts Root Refers missing.claimed) before_it = none_claimed counts Root Refers missing.claimed before_it missing.item none.1 h.known in
          inr (subst (λ (c : List (List ℕ)). Looked counts Root Refers (IfClaimed counts Root Refers c) t.met) (sym claimed_still)
          (looked_on (IfClaimed counts Root Refers missing.claimed) (λ y c is. omega (arith, none.0 y c is, h.sized y)) before))
    ]

    known_on : (p : Option Item) → t.missing.item ≡ p → IsKnown counts Root Refers t.missing.claimed t.met p
    known_on None e =
        let all = none_missing met.items behind_it (sym (ap (λ (u : State). u.missing.item) met.met) ∙ e) in
        let before : IsKnown counts Root Refers missing.claimed before_it None = subst (IsKnown counts Root Refers missing.claimed before_it) all.1 h.known in
        looked_on (FitsIn counts) (λ y c. omega (arith, all.0 y c, h.sized y)) before
    known_on (Some j) e = elim (missing_is met.items behind_it j (sym (ap (λ (u : State). u.missing.item) met.met) ∙ e)) as (λ _. IsKnown counts Root Refers t.missing.claimed t.met (Some j)) [
      | inl old ↦ (let before : IsKnown counts Root Refers missing.claimed before_it (Some j) = subst (IsKnown counts Root Refers missing.claimed before_it) old h.known in (before.0, before.1, claimed_on j e))
      | inr n ↦ (refers reached ((met.are j).0 n.0), λ fits. n.1 (omega (arith, fits, h.sized j)), claimed_on j e)
    ]

    turn_on : Sweeps counts Root Refers t
    turn_on =
        let sized : (x : Item) → length (flags_of t.met.marks x) ≡ get_or counts (space_number x.space) 0 = λ x. grows.sized x ∙ h.sized x in
        record {
          sized = sized;
          sound = λ x m. elim (grows.only x m) as (λ _. Chain Root Refers x × FitsIn counts x) [
            | inl old ↦ h.sound x old
            | inr c ↦ (refers reached ((met.are x).0 c), marked_fits counts t.met.marks sized x m)
          ];
          rooted = λ x r fits. grows.still x (h.rooted x r fits);
          pending = λ x c. elim (grows.from x c) as (λ _. IsMarked t.met.marks x) [
            | inl d ↦ grows.still x (h.pending x (Contains-append_left work (i ∷ []) x d))
            | inr m ↦ m
          ];
          closed = λ x y m r fits. elim (grows.fresh x m) as (λ _. IsMarked t.met.marks y ⊎ Contains t.met.work x) [
            | inl old ↦ elim (h.closed x y old r fits) as (λ _. IsMarked t.met.marks y ⊎ Contains t.met.work x) [
              | inl there ↦ inl (grows.still y there)
              | inr waits ↦ elim (Contains-push_cases work i x waits) as (λ _. IsMarked t.met.marks y ⊎ Contains t.met.work x) [
                | inl d ↦ inr (grows.waiting x d)
                | inr e ↦ inl (grows.each y ((met.are y).1 (subst (λ z. Refers z y) (sym e) r)) (omega (arith, fits, h.sized y)))
              ]
            ]
            | inr d ↦ inr d
          ];
          known = known_on t.missing.item refl;
        }

    falls : left_out t.met.marks + length t.met.work < left_out marks + length (work ++ i ∷ [])
    falls = omega (arith, grows.counted, length-append work (i ∷ []))

  -- the same, between the loop's states
  module _ (s r t : State) (i : Item) (same : r.met.marks ≡ s.met.marks) (was : r.missing ≡ s.missing) (is : s.met.work ≡ r.met.work ++ i ∷ []) (met : Meets (Refers i) r t) where
    pub sweeps_turn : Sweeps counts Root Refers s → Sweeps counts Root Refers t
    sweeps_turn h = turn_on r.met.marks r.met.work r.missing i t met (subst (Sweeps counts Root Refers) (same_state s r.met.marks (r.met.work ++ i ∷ []) r.missing same is was) h)

    pub turn_falls : Sweeps counts Root Refers s → left_out t.met.marks + length t.met.work < left_out s.met.marks + length s.met.work
    turn_falls h =
        let less = falls r.met.marks r.met.work r.missing i t met (subst (Sweeps counts Root Refers) (same_state s r.met.marks (r.met.work ++ i ∷ []) r.missing same is was) h) in
        omega (arith, less, ap left_out same, ap length is)

  module _ (fit : (x y : Item) → Refers x y → FitsIn counts x) (s : State) (idle : s.met.work ≡ []) (h : Sweeps counts Root Refers s) where
    not_waiting : (x : Item) → Contains s.met.work x → ⊥
    not_waiting x c = empty x (subst (λ (w : List Item). Contains w x) idle c)

    all_marked : (x : Item) → Chain Root Refers x → FitsIn counts x → IsMarked s.met.marks x
    all_marked x (root r) fits = h.rooted x r fits
    all_marked y (refers {x} k r) fits = elim (h.closed x y (all_marked x k (fit x y r)) r fits) as (λ _. IsMarked s.met.marks y) [ inl there ↦ there | inr waits ↦ absurd (not_waiting x waits) ]

    all_so : (P : Item → Type 0) → Looked counts Root Refers P s.met → (x : Item) → Chain Root Refers x → P x
    all_so P looked x (root r) = looked.0 x r
    all_so P looked y (refers {x} k r) = elim (looked.1 x y (all_marked x k (fit x y r)) r) as (λ _. P y) [ inl so ↦ so | inr waits ↦ absurd (not_waiting x waits) ]

    claimed_so : (claimed : List (List ℕ)) → Looked counts Root Refers (IfClaimed counts Root Refers claimed) s.met → (x : Item) → Chain Root Refers x → IsTrue (is_claimed claimed x) → FitsIn counts x
    claimed_so claimed looked x k = all_so (IfClaimed counts Root Refers claimed) looked x k

    missing_said : (claimed : List (List ℕ)) (o : Option Item) → IsKnown counts Root Refers claimed s.met o → Lacks counts Root Refers (record { item = o; claimed = claimed })
    missing_said claimed None known = all_so (FitsIn counts) known
    missing_said claimed (Some i) known = (
      known.0,
      known.1,
      elim known.2 as (λ _. IsTrue (is_claimed claimed i) ⊎ ((x : Item) → Chain Root Refers x → IsTrue (is_claimed claimed x) → FitsIn counts x)) [
        | inl claims ↦ inl claims
        | inr looked ↦ inr (claimed_so claimed looked)
      ],
    )

    pub sweeps_end : IsReached counts Root Refers s
    sweeps_end = record {
      marked = λ x. (h.sound x, λ both. all_marked x both.0 both.1);
      missing = missing_said s.missing.claimed s.missing.item h.known;
    }

  -- what is left where nothing was taken
  pub ended : (fit : (x y : Item) → Refers x y → FitsIn counts x) (s r : State) → r.met.marks ≡ s.met.marks → r.missing ≡ s.missing → s.met.work ≡ [] → Sweeps counts Root Refers s → IsReached counts Root Refers r
  ended fit s r same was idle h =
      let reached = sweeps_end fit s idle h in
      record {
        marked = λ x. subst (λ (marks : List (List Bool)). IsTrue (is_marked marks x) ↔ (Chain Root Refers x × FitsIn counts x)) (sym same) (reached.marked x);
        missing = subst (Lacks counts Root Refers) (sym was) reached.missing;
      }

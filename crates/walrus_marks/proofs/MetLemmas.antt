-- Meeting items, one after the other.
use Rattle.std.proofs.Common.{◌≡◌, not, ◌+◌, ◌⊎◌, ℕ, Bool, true, false, List, [], ◌∷◌, ◌++◌, length, Contains, Option, Some, None, refl, sym, ap, subst, ◌∙◌, inl, inr, arith, length-append, if◌then◌else◌}
use Rattle.std.specs.Prelude.{IsTrue}
use Rattle.std.specs.List.{fold}
use Rattle.std.proofs.lemmas.Bool.{lt-ltb, ltb-true, false≢true, cases_lt}
use Rattle.std.proofs.lemmas.List.{get_or_past}
use Rattle.std.proofs.lemmas.List.Elements.{Contains-push, Contains-push_cases, Contains-append_left}
use Rattle.walrus_roots.specs.declared.item.Item.{Item}
use Rattle.walrus_marks.specs.Marks.{Met, Missing, State, kept_missing, is_claimed, meet, meet_there, miss, has_flag, mark, is_marked, is_new, Fits, flags_of, left_out}
use Rattle.walrus_marks.proofs.FlagLemmas.{told_apart}
use Rattle.walrus_marks.proofs.MarkLemmas.{contains_first, contains_later, contains_cases, IsMarked, marked_itself, marked_before, marked_still, flags_sized, one_less}

-- what it means that these were met
pub record Grows (s t : Met) (fs : List Item) : Type 0 where
  pub sized : (f : Item) → length (flags_of t.marks f) ≡ length (flags_of s.marks f)
  pub counted : left_out t.marks + length t.work ≡ left_out s.marks + length s.work
  pub still : (f : Item) → IsMarked s.marks f → IsMarked t.marks f
  pub each : (f : Item) → Contains fs f → Fits s.marks f → IsMarked t.marks f
  pub only : (f : Item) → IsMarked t.marks f → IsMarked s.marks f ⊎ Contains fs f
  pub waiting : (f : Item) → Contains s.work f → Contains t.work f
  pub fresh : (f : Item) → IsMarked t.marks f → IsMarked s.marks f ⊎ Contains t.work f
  pub from : (f : Item) → Contains t.work f → Contains s.work f ⊎ IsMarked t.marks f

pub empty : {X : Type 0} (f : X) → Contains [] f → ⊥
empty f c = omega (arith, c.1)

single : (g f : Item) → Contains (g ∷ []) f → g ≡ f
single g f c = elim (contains_cases g [] f c) as (λ _. g ≡ f) [ inl e ↦ e | inr d ↦ absurd (empty f d) ]

none_met : (s : Met) → Grows s s []
none_met s = record {
  sized = λ f. refl;
  counted = refl;
  still = λ f h. h;
  each = λ f c fits. absurd (empty f c);
  only = λ f h. inl h;
  waiting = λ f c. c;
  fresh = λ f h. inl h;
  from = λ f c. inl c;
}

-- nothing changes
as_it_was : (s : Met) (g : Item) → (Fits s.marks g → IsMarked s.marks g) → Grows s s (g ∷ [])
as_it_was s g is = record {
  sized = λ f. refl;
  counted = refl;
  still = λ f h. h;
  each = λ f c fits. subst (IsMarked s.marks) (single g f c) (is (subst (Fits s.marks) (sym (single g f c)) fits));
  only = λ f h. inl h;
  waiting = λ f c. c;
  fresh = λ f h. inl h;
  from = λ f c. inl c;
}

one_met : (s : Met) (g : Item) → Fits s.marks g → (b : Bool) → is_marked s.marks g ≡ not b → Grows s (if b then record { marks = mark s.marks g; work = s.work ++ g ∷ [] } else s) (g ∷ [])
one_met s g below false is = as_it_was s g (λ _. is)
one_met s g below true is = record {
  sized = λ f. flags_sized s.marks g f below;
  counted = omega (arith, one_less s.marks g below is, length-append s.work (g ∷ []));
  still = λ f h. marked_still s.marks g f below h;
  each = λ f c fits. subst (IsMarked (mark s.marks g)) (single g f c) (marked_itself s.marks g below);
  only = λ f h. elim (marked_before s.marks g f below h) as (λ _. IsMarked s.marks f ⊎ Contains (g ∷ []) f) [ inl e ↦ inr (contains_first g [] f (sym e)) | inr old ↦ inl old ];
  waiting = λ f c. Contains-append_left s.work (g ∷ []) f c;
  fresh = λ f h. elim (marked_before s.marks g f below h) as (λ _. IsMarked s.marks f ⊎ Contains (s.work ++ g ∷ []) f) [
    | inl e ↦ inr (subst (λ x. Contains (s.work ++ g ∷ []) x) (sym e) (Contains-push s.work g))
    | inr old ↦ inl old
  ];
  from = λ f c. elim (Contains-push_cases s.work g f c) as (λ _. Contains s.work f ⊎ IsMarked (mark s.marks g) f) [
    | inl d ↦ inl d
    | inr e ↦ inr (subst (IsMarked (mark s.marks g)) e (marked_itself s.marks g below))
  ];
}

then_met : (s t u : Met) (g : Item) (fs : List Item) → Grows s t (g ∷ []) → Grows t u fs → Grows s u (g ∷ fs)
then_met s t u g fs a b = record {
  sized = λ f. b.sized f ∙ a.sized f;
  counted = b.counted ∙ a.counted;
  still = λ f h. b.still f (a.still f h);
  each = λ f c fits. elim (contains_cases g fs f c) as (λ _. IsMarked u.marks f) [
    | inl e ↦ b.still f (a.each f (contains_first g [] f e) fits)
    | inr d ↦ b.each f d (omega (arith, a.sized f, fits))
  ];
  only = λ f h. elim (b.only f h) as (λ _. IsMarked s.marks f ⊎ Contains (g ∷ fs) f) [
    | inl m ↦ elim (a.only f m) as (λ _. IsMarked s.marks f ⊎ Contains (g ∷ fs) f) [ inl old ↦ inl old | inr c ↦ inr (contains_first g fs f (single g f c)) ]
    | inr c ↦ inr (contains_later g fs f c)
  ];
  waiting = λ f c. b.waiting f (a.waiting f c);
  fresh = λ f h. elim (b.fresh f h) as (λ _. IsMarked s.marks f ⊎ Contains u.work f) [
    | inl m ↦ elim (a.fresh f m) as (λ _. IsMarked s.marks f ⊎ Contains u.work f) [ inl old ↦ inl old | inr c ↦ inr (b.waiting f c) ]
    | inr c ↦ inr c
  ];
  from = λ f c. elim (b.from f c) as (λ _. Contains s.work f ⊎ IsMarked u.marks f) [
    | inl d ↦ elim (a.from f d) as (λ _. Contains s.work f ⊎ IsMarked u.marks f) [ inl old ↦ inl old | inr e ↦ inr (b.still f e) ]
    | inr d ↦ inr d
  ];
}

meet_grows : (s : Met) (f : Item) → Grows s (meet_there s f) (f ∷ [])
meet_grows s f = elim (cases_lt f.id (length (flags_of s.marks f))) as (λ _. Grows s (meet_there s f) (f ∷ [])) [
  | inl below ↦ one_met s f below (is_new s.marks f) (told_apart (flags_of s.marks f) f.id (is_new s.marks f) below refl)
  | inr past ↦ (let none : is_new s.marks f ≡ false = ap not (get_or_past (flags_of s.marks f) f.id true past) in
      subst (λ (b : Bool). Grows s (if b then record { marks = mark s.marks f; work = s.work ++ f ∷ [] } else s) (f ∷ [])) (sym none) (as_it_was s f (λ fits. absurd (omega (arith, past, fits)))))
]

pub all_met : (fs : List Item) (s : Met) → Grows s (fold meet_there s fs) fs
all_met [] s = none_met s
all_met (f ∷ fs) s = then_met s (meet_there s f) (fold meet_there (meet_there s f) fs) f fs (meet_grows s f) (all_met fs (meet_there s f))

pub fold_met : (fs : List Item) (s : State) → (fold meet s fs).met ≡ fold meet_there s.met fs
fold_met [] s = refl
fold_met (f ∷ fs) s = fold_met fs (meet s f)

-- which of two is kept
chosen : (b : Bool) (j f i : Item) → (if b then Some j else Some f) ≡ Some i → (Some j ≡ Some i) ⊎ (f ≡ i)
chosen true j f i e = inl e
chosen false j f i e = inr (let h : Some f ≡ Some i = e in cc)

one_kept : (b : Bool) (j f : Item) → (if b then Some j else Some f) ≡ None → ⊥
one_kept true j f e = (let h : Some j ≡ None = e in cc)
one_kept false j f e = (let h : Some f ≡ None = e in cc)

module _ (claimed : List (List ℕ)) where
  placed : (o : Option Item) (f i : Item) → kept_missing claimed o f ≡ Some i → (o ≡ Some i) ⊎ (f ≡ i)
  placed None f i e = inr (let h : Some f ≡ Some i = e in cc)
  placed (Some j) f i e = chosen (is_claimed claimed j) j f i e

  never_none : (o : Option Item) (f : Item) → kept_missing claimed o f ≡ None → ⊥
  never_none None f e = (let h : Some f ≡ None = e in cc)
  never_none (Some j) f e = one_kept (is_claimed claimed j) j f e

  neither_chosen : (b : Bool) (k f : Item) → is_claimed claimed k ≡ b → ((j : Item) → (if b then Some k else Some f) ≡ Some j → is_claimed claimed j ≡ false) → (is_claimed claimed f ≡ false) × (is_claimed claimed k ≡ false)
  neither_chosen true k f is none = absurd (false≢true (sym (none k refl) ∙ is))
  neither_chosen false k f is none = (none f refl, is)

  -- where what is kept isn't claimed, neither of the two is
  by_place : (o : Option Item) (f : Item) → ((j : Item) → kept_missing claimed o f ≡ Some j → is_claimed claimed j ≡ false) → (is_claimed claimed f ≡ false) × ((j : Item) → o ≡ Some j → is_claimed claimed j ≡ false)
  by_place None f none = (none f refl, λ j e. absurd (let h : None ≡ Some j = e in cc))
  by_place (Some k) f none = (let both = neither_chosen (is_claimed claimed k) k f refl none in (both.0, λ j e. (let same : k ≡ j = (let h : Some k ≡ Some j = e in cc) in subst (λ (x : Item). is_claimed claimed x ≡ false) same both.1)))

either_missing : (b : Bool) (s : Missing) (f i : Item) → (if b then s else miss s f).item ≡ Some i → (s.item ≡ Some i) ⊎ ((b ≡ false) × (f ≡ i))
either_missing true s f i e = inl e
either_missing false s f i e = elim (placed s.claimed s.item f i e) as (λ _. (s.item ≡ Some i) ⊎ ((false ≡ false) × (f ≡ i))) [ inl old ↦ inl old | inr same ↦ inr (refl, same) ]

not_missing : (b : Bool) (s : Missing) (f : Item) → (if b then s else miss s f).item ≡ None → (b ≡ true) × (s.item ≡ None)
not_missing true s f e = (refl, e)
not_missing false s f e = absurd (never_none s.claimed s.item f e)

claimed_still : (b : Bool) (s : Missing) (f : Item) → (if b then s else miss s f).claimed ≡ s.claimed
claimed_still true s f = refl
claimed_still false s f = refl

neither_missing : (b : Bool) (s : Missing) (f : Item) → ((j : Item) → (if b then s else miss s f).item ≡ Some j → is_claimed s.claimed j ≡ false) → (b ≡ false → is_claimed s.claimed f ≡ false) × ((j : Item) → s.item ≡ Some j → is_claimed s.claimed j ≡ false)
neither_missing true s f none = (λ e. absurd (false≢true (sym e)), none)
neither_missing false s f none = (let both = by_place s.claimed s.item f none in (λ _. both.0, both.1))

-- what is claimed stays so
pub fold_claimed : (fs : List Item) (s : State) → (fold meet s fs).missing.claimed ≡ s.missing.claimed
fold_claimed [] s = refl
fold_claimed (f ∷ fs) s = fold_claimed fs (meet s f) ∙ claimed_still (has_flag s.met.marks f) s.missing f

-- there is no flag for it
fits_not : (marks : List (List Bool)) (f : Item) → has_flag marks f ≡ false → Fits marks f → ⊥
fits_not marks f none fits = false≢true (sym none ∙ lt-ltb f.id (length (flags_of marks f)) fits)

true_or_not : (b : Bool) → (b ≡ true) ⊎ (b ≡ false)
true_or_not true = inl refl
true_or_not false = inr refl

has_or_not : (marks : List (List Bool)) (f : Item) → (has_flag marks f ≡ true) ⊎ (has_flag marks f ≡ false)
has_or_not marks f = true_or_not (has_flag marks f)

-- an item is claimed or isn't
pub claimed_or_not : (claimed : List (List ℕ)) (x : Item) → (is_claimed claimed x ≡ true) ⊎ (is_claimed claimed x ≡ false)
claimed_or_not claimed x = true_or_not (is_claimed claimed x)

-- what is missing at the end was so before, or is one of these and has no flag
pub missing_is : (fs : List Item) (s : State) (i : Item) → (fold meet s fs).missing.item ≡ Some i → (s.missing.item ≡ Some i) ⊎ (Contains fs i × (Fits s.met.marks i → ⊥))
missing_is [] s i e = inl e
missing_is (f ∷ fs) s i e = elim (missing_is fs (meet s f) i e) as (λ _. (s.missing.item ≡ Some i) ⊎ (Contains (f ∷ fs) i × (Fits s.met.marks i → ⊥))) [
  | inl now ↦ elim (either_missing (has_flag s.met.marks f) s.missing f i now) as (λ _. (s.missing.item ≡ Some i) ⊎ (Contains (f ∷ fs) i × (Fits s.met.marks i → ⊥))) [
    | inl old ↦ inl old
    | inr h ↦ inr (contains_first f fs i h.1, subst (λ x. Fits s.met.marks x → ⊥) h.1 (fits_not s.met.marks f h.0))
  ]
  | inr h ↦ inr (contains_later f fs i h.0, λ fits. h.1 (omega (arith, (meet_grows s.met f).sized i, fits)))
]

-- where none is missing at the end, all have flags
pub none_missing : (fs : List Item) (s : State) → (fold meet s fs).missing.item ≡ None → ((i : Item) → Contains fs i → Fits s.met.marks i) × (s.missing.item ≡ None)
none_missing [] s e = (λ i c. absurd (empty i c), e)
none_missing (f ∷ fs) s e =
    let later = none_missing fs (meet s f) e in
    let now = not_missing (has_flag s.met.marks f) s.missing f later.1 in (
      λ i c. elim (contains_cases f fs i c) as (λ _. Fits s.met.marks i) [
        | inl same ↦ subst (Fits s.met.marks) same (ltb-true f.id (length (flags_of s.met.marks f)) now.0)
        | inr d ↦ omega (arith, (meet_grows s.met f).sized i, later.0 i d)
      ],
      now.1,
    )

-- where an item that isn't claimed is missing at the end, those of these that are claimed have flags, and none that is claimed was missing before
pub unclaimed : (fs : List Item) (s : State) (i : Item) → (fold meet s fs).missing.item ≡ Some i → is_claimed s.missing.claimed i ≡ false
    → ((x : Item) → Contains fs x → IsTrue (is_claimed s.missing.claimed x) → Fits s.met.marks x) × ((j : Item) → s.missing.item ≡ Some j → is_claimed s.missing.claimed j ≡ false)
unclaimed [] s i e not = (λ x c. absurd (empty x c), λ j was. (let same : i ≡ j = (let h : Some i ≡ Some j = sym e ∙ was in cc) in subst (λ (x : Item). is_claimed s.missing.claimed x ≡ false) same not))
unclaimed (f ∷ fs) s i e not =
    let same : (meet s f).missing.claimed ≡ s.missing.claimed = claimed_still (has_flag s.met.marks f) s.missing f in
    let later = unclaimed fs (meet s f) i e (ap (λ (c : List (List ℕ)). is_claimed c i) same ∙ not) in
    let now = neither_missing (has_flag s.met.marks f) s.missing f (λ j is. sym (ap (λ (c : List (List ℕ)). is_claimed c j) same) ∙ later.1 j is) in (
      λ x c claims. elim (contains_cases f fs x c) as (λ _. Fits s.met.marks x) [
        | inl first ↦ subst (Fits s.met.marks) first (elim (has_or_not s.met.marks f) as (λ _. Fits s.met.marks f) [
          | inl has ↦ ltb-true f.id (length (flags_of s.met.marks f)) has
          | inr none ↦ absurd (false≢true (sym (now.0 none) ∙ subst (λ (y : Item). is_claimed s.missing.claimed y ≡ true) (sym first) claims))
        ])
        | inr d ↦ omega (arith, (meet_grows s.met f).sized x, later.0 x d (ap (λ (c : List (List ℕ)). is_claimed c x) same ∙ claims))
      ],
      now.1,
    )

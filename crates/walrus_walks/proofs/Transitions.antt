-- The test of nesting: each kind of step keeps the state, and what the end of the test means.
use Rattle.std.proofs.Common.{ℕ, zero, suc, ◌+◌, ◌<◌, ◌≤◌, ◌≡◌, cond, nat_eq, List, [], ◌∷◌, ◌++◌, length, get_or, Option, Some, refl, sym, ap, subst, arith, ◌∙◌, ◌⊎◌, inl, inr, length-append, append_assoc}
use Rattle.std.specs.Prelude.{slice_get, slice_set}
use Rattle.std.proofs.lemmas.Bool.{cases_lt, cases_eq}
use Rattle.std.proofs.lemmas.Bool.Decides.{nat_tests}
use Rattle.std.proofs.lemmas.List.{append-nil, get_or-set_same, get_or-set_other}
use Rattle.std.proofs.lemmas.Option.{slice_get_within}
use Rattle.walrus_instr.specs.declared.instr.Instr.{Instr}
use Rattle.walrus_instr.specs.declared.seq.InstrLocId.{InstrLocId}
use Rattle.walrus_instr.specs.declared.seq.InstrSeq.{InstrSeq}
use Rattle.walrus_walks.specs.declared.nesting.Mark.{Mark}
use Rattle.walrus_walks.specs.declared.nesting.Mark.TheVariants.{Fresh, Open, Done}
use Rattle.walrus_walks.specs.declared.steps.Step.{Step}
use Rattle.walrus_walks.specs.declared.steps.Step.TheVariants.{Enter, Resume}
use Rattle.walrus_walks.specs.Tree.{children, children_in, Falls, IsRank, IsNested}
use Rattle.walrus_walks.specs.Steps.{entering}
use Rattle.walrus_walks.specs.Checks.{pushed, mark_at, held, Waits, Settled, AllSettled, Settles, Leaves, AllKnown, Below, Ranked, Checks, turns_of, work}
use Rattle.walrus_walks.proofs.Marks.{waits_front, waits_back, waits_split, settles_step, settled_pushed, settles_pushed, leaves_front, leaves_back, leaves_split, known_front, known_append, known_pushed, below_step, below_pushed, below_last, below_open}

-- ---- marks
set_same : (ms : List Mark) (k c : ℕ) (m : Mark) → k < length ms → c ≡ k → mark_at (slice_set ms k m) c ≡ m
set_same ms k c m l e =
    let F : ℕ → Type 0 = λ i. mark_at (slice_set ms k m) i ≡ m in
    subst F (sym e) (get_or-set_same ms k m Fresh l)

set_other : (ms : List Mark) (k c : ℕ) (m : Mark) → (c ≡ k → ⊥) → mark_at (slice_set ms k m) c ≡ mark_at ms c
set_other ms k c m n = get_or-set_other ms k c m Fresh n

-- a mark other than the one set stood before
was : (ms : List Mark) (k c : ℕ) (m n : Mark) → k < length ms → (m ≡ n → ⊥) → mark_at (slice_set ms k m) c ≡ n → (c ≡ k) ⊎ (c ≡ k → ⊥) → (c ≡ k → ⊥) × (mark_at ms c ≡ n)
was ms k c m n l other h (inl e) = absurd (other (sym (set_same ms k c m l e) ∙ h))
was ms k c m n l other h (inr ne) = (ne, sym (set_other ms k c m ne) ∙ h)

-- ---- the general step
module _ (b : List InstrSeq) (start : ℕ) (ms : List Mark) (fs : List Step) where
  checks_step : (ns : List Mark) (f : Step) (gs : List Step) → Ranked b ns → ((hs : List Step) (k : ℕ) → Settled ms (hs ++ f ∷ []) k → Settled ns (hs ++ gs) k) → Settles b ns gs
      → ((k : ℕ) → mark_at ns k ≡ Open → Leaves k (fs ++ gs)) → AllKnown b gs → ((rank : ℕ → ℕ) → IsRank b rank → (m : ℕ) → Below rank m (f ∷ []) → Below rank m gs)
      → Checks b start ms (fs ++ f ∷ []) → Checks b start ns (fs ++ gs)
  checks_step ns f gs ranked keep over opened known swap h = record {
    ranked = ranked;
    settles = settles_step b ms ns f gs keep over fs h.settles;
    opened = opened;
    known = known_append b fs gs (known_front b fs (f ∷ []) h.known).0 known;
    falls = λ rank ir p. below_step rank f gs (swap rank ir) (rank start + 1) fs (h.falls rank ir p);
    meant = keep fs start h.meant;
  }

  -- ---- a done sequence is met again
  skip_keep : (k : ℕ) → mark_at ms k ≡ Done → (hs : List Step) (c : ℕ) → Waits c hs ⊎ Waits c (Enter k ∷ []) → Settled ms (hs ++ []) c
  skip_keep k d hs c (inl w) = inr (waits_front c hs [] w)
  skip_keep k d hs c (inr (inl e)) = inl (let F : ℕ → Type 0 = λ i. mark_at ms i ≡ Done in subst F e d)
  skip_keep k d hs c (inr (inr z)) = absurd z

  skip_settled : (k : ℕ) → mark_at ms k ≡ Done → (hs : List Step) (c : ℕ) → Settled ms (hs ++ Enter k ∷ []) c → Settled ms (hs ++ []) c
  skip_settled k d hs c (inl e) = inl e
  skip_settled k d hs c (inr w) = skip_keep k d hs c (waits_split c hs (Enter k ∷ []) w)

  entered_leaves : (k c : ℕ) (gs : List Step) → Leaves c fs ⊎ Leaves c (Enter k ∷ []) → Leaves c (fs ++ gs)
  entered_leaves k c gs (inl x) = leaves_front c fs gs x
  entered_leaves k c gs (inr z) = absurd z

  pub checks_skip : (k : ℕ) → mark_at ms k ≡ Done → Checks b start ms (fs ++ Enter k ∷ []) → Checks b start ms fs
  checks_skip k d h =
      let F : List Step → Type 0 = Checks b start ms in
      let opened = λ (c : ℕ) (o : mark_at ms c ≡ Open). entered_leaves k c [] (leaves_split c fs (Enter k ∷ []) (h.opened c o)) in
      subst F (append-nil fs) (checks_step ms (Enter k) [] h.ranked (skip_settled k d) tt opened tt (λ rank ir m q. tt) h)

  -- ---- a fresh sequence is entered
  module _ (k : ℕ) (s : InstrSeq) (e : slice_get b k ≡ Some s) (l : k < length ms) (fresh : mark_at ms k ≡ Fresh) where
    enter_done : (c : ℕ) → mark_at ms c ≡ Done → (c ≡ k) ⊎ (c ≡ k → ⊥) → mark_at (slice_set ms k Open) c ≡ Done
    enter_done c d (inl same) = let at = ap (mark_at ms) same in cc
    enter_done c d (inr ne) = set_other ms k c Open ne ∙ d

    enter_keep : (gs hs : List Step) (c : ℕ) → Waits c hs ⊎ Waits c (Enter k ∷ []) → Settled (slice_set ms k Open) (hs ++ Resume k 0 ∷ gs) c
    enter_keep gs hs c (inl w) = inr (waits_front c hs (Resume k 0 ∷ gs) w)
    enter_keep gs hs c (inr (inl same)) = inr (waits_back c hs (Resume k 0 ∷ gs) (inl same))
    enter_keep gs hs c (inr (inr z)) = absurd z

    enter_settled : (gs hs : List Step) (c : ℕ) → Settled ms (hs ++ Enter k ∷ []) c → Settled (slice_set ms k Open) (hs ++ Resume k 0 ∷ gs) c
    enter_settled gs hs c (inl d) = inl (enter_done c d (cases_eq c k))
    enter_settled gs hs c (inr w) = enter_keep gs hs c (waits_split c hs (Enter k ∷ []) w)

    enter_opened : (gs : List Step) → ((c : ℕ) → mark_at ms c ≡ Open → Leaves c (fs ++ Enter k ∷ [])) → (c : ℕ) → mark_at (slice_set ms k Open) c ≡ Open → (c ≡ k) ⊎ (c ≡ k → ⊥) → Leaves c (fs ++ Resume k 0 ∷ gs)
    enter_opened gs old c o (inl same) = leaves_back c fs (Resume k 0 ∷ gs) (inl (sym same))
    enter_opened gs old c o (inr ne) = entered_leaves k c (Resume k 0 ∷ gs) (leaves_split c fs (Enter k ∷ []) (old c (sym (set_other ms k c Open ne) ∙ o)))

    enter_falls : (rank : ℕ → ℕ) → IsRank b rank → 0 < rank k → Falls rank (rank k) (children_in s.instrs.items)
    enter_falls rank ir p =
        let t = ir k p in
        let some_same : Some t.0 ≡ Some s = sym t.1 ∙ e in
        let same : t.0 ≡ s = cc in
        let F : InstrSeq → Type 0 = λ u. Falls rank (rank k) (children_in u.instrs.items) in
        subst F same t.2

    pub checks_enter : Checks b start ms (fs ++ Enter k ∷ []) → Checks b start (slice_set ms k Open) (fs ++ Resume k 0 ∷ pushed s.instrs.items)
    checks_enter h =
        let ns = slice_set ms k Open in
        let is = s.instrs.items in
        let r = h.ranked in
        let ranked : Ranked b ns = record { rank = r.rank; top = r.top; is_rank = r.is_rank; below = r.below; done = λ c d. r.done c (was ms k c Open Done l (λ q. cc) d (cases_eq c k)).1 } in
        let F : Option InstrSeq → Type 0 = λ o. AllSettled ns (pushed is) (held o) in
        checks_step ns (Enter k) (Resume k 0 ∷ pushed is) ranked (enter_settled (pushed is)) (subst F (sym e) (settled_pushed ns is), settles_pushed b ns is)
        (λ c o. enter_opened (pushed is) h.opened c o (cases_eq c k)) (slice_get_within b k s e, known_pushed b is)
        (λ rank ir m q. (q.0, q.1, below_pushed rank (rank k) is (enter_falls rank ir q.0))) h

  -- ---- a sequence is left
  settles_last : (k i : ℕ) (gs : List Step) → Settles b ms (gs ++ Resume k i ∷ []) → AllSettled ms [] (held (slice_get b k))
  settles_last k i [] h = h.0
  settles_last k i (Enter _ ∷ gs) h = settles_last k i gs h
  settles_last k i (Resume _ _ ∷ gs) h = settles_last k i gs h.1

  module _ (k i : ℕ) (l : k < length ms) where
    leave_done : (c : ℕ) → mark_at ms c ≡ Done → (c ≡ k) ⊎ (c ≡ k → ⊥) → mark_at (slice_set ms k Done) c ≡ Done
    leave_done c d (inl same) = set_same ms k c Done l same
    leave_done c d (inr ne) = set_other ms k c Done ne ∙ d

    leave_keep : (hs : List Step) (c : ℕ) → Waits c hs ⊎ Waits c (Resume k i ∷ []) → Settled (slice_set ms k Done) (hs ++ []) c
    leave_keep hs c (inl w) = inr (waits_front c hs [] w)
    leave_keep hs c (inr (inl same)) = inl (set_same ms k c Done l (sym same))
    leave_keep hs c (inr (inr z)) = absurd z

    leave_settled : (hs : List Step) (c : ℕ) → Settled ms (hs ++ Resume k i ∷ []) c → Settled (slice_set ms k Done) (hs ++ []) c
    leave_settled hs c (inl d) = inl (leave_done c d (cases_eq c k))
    leave_settled hs c (inr w) = leave_keep hs c (waits_split c hs (Resume k i ∷ []) w)

    left_leaves : (c : ℕ) → (c ≡ k → ⊥) → Leaves c fs ⊎ Leaves c (Resume k i ∷ []) → Leaves c (fs ++ [])
    left_leaves c ne (inl x) = leaves_front c fs [] x
    left_leaves c ne (inr (inl same)) = absurd (ne (sym same))
    left_leaves c ne (inr (inr z)) = absurd z

    leave_opened : ((c : ℕ) → mark_at ms c ≡ Open → Leaves c (fs ++ Resume k i ∷ [])) → (c : ℕ) → mark_at (slice_set ms k Done) c ≡ Open → Leaves c (fs ++ [])
    leave_opened old c o =
        let w = was ms k c Done Open l (λ q. cc) o (cases_eq c k) in
        left_leaves c w.0 (leaves_split c fs (Resume k i ∷ []) (old c w.1))

    checks_leave_as : Ranked b (slice_set ms k Done) → Checks b start ms (fs ++ Resume k i ∷ []) → Checks b start (slice_set ms k Done) fs
    checks_leave_as ranked h =
        let F : List Step → Type 0 = Checks b start (slice_set ms k Done) in
        subst F (append-nil fs) (checks_step (slice_set ms k Done) (Resume k i) [] ranked leave_settled tt (leave_opened h.opened) tt (λ rank ir m q. tt) h)

-- ---- the rank of a sequence that is left
-- the rank with k raised to the top
abbrev raised : (ℕ → ℕ) → ℕ → ℕ → ℕ → ℕ
raised rank k top j = cond (nat_eq j k) top (rank j)

raised_same : (rank : ℕ → ℕ) (k top j : ℕ) → j ≡ k → raised rank k top j ≡ top
raised_same rank k top j e = grind (arith, nat_tests)

raised_other : (rank : ℕ → ℕ) (k top j : ℕ) → (j ≡ k → ⊥) → raised rank k top j ≡ rank j
raised_other rank k top j n = grind (arith, nat_tests)

module _ (b : List InstrSeq) (ms : List Mark) (k : ℕ) (l : k < length ms) (r : Ranked b ms) where
  all_below : (ks : List ℕ) → AllSettled ms [] ks → Falls r.rank r.top ks
  all_below [] h = tt
  all_below (c ∷ cs) h = (r.done c (settled_done c h.0), r.below c, all_below cs h.1)
    where
      settled_done : (c : ℕ) → Settled ms [] c → mark_at ms c ≡ Done
      settled_done c (inl d) = d
      settled_done c (inr z) = absurd z

  module _ (none : r.rank k ≤ 0) where
    not_it : (c : ℕ) → 0 < r.rank c → c ≡ k → ⊥
    not_it c p e = let at : r.rank c ≡ r.rank k = ap r.rank e in omega arith

    falls_raised : (n : ℕ) (ks : List ℕ) → Falls r.rank n ks → Falls (raised r.rank k r.top) n ks
    falls_raised n [] f = tt
    falls_raised n (c ∷ cs) f =
        let same = raised_other r.rank k r.top c (not_it c f.0) in
        let q = f.0 in
        let p = f.1 in
        (omega (arith, same, q), omega (arith, same, p), falls_raised n cs f.2)

    raised_is_rank_at : (s : InstrSeq) → slice_get b k ≡ Some s → AllSettled ms [] (children_in s.instrs.items) → (j : ℕ) → 0 < raised r.rank k r.top j → (j ≡ k) ⊎ (j ≡ k → ⊥)
        → (t : InstrSeq) × (slice_get b j ≡ Some t) × Falls (raised r.rank k r.top) (raised r.rank k r.top j) (children_in t.instrs.items)
    raised_is_rank_at s e all j p (inl same) =
        let F : ℕ → Type 0 = λ n. Falls (raised r.rank k r.top) n (children_in s.instrs.items) in
        (s, ap (slice_get b) same ∙ e, subst F (sym (raised_same r.rank k r.top j same)) (falls_raised r.top (children_in s.instrs.items) (all_below (children_in s.instrs.items) all)))
    raised_is_rank_at s e all j p (inr ne) =
        let same = raised_other r.rank k r.top j ne in
        let q : 0 < r.rank j = subst (λ (n : ℕ). 0 < n) same p in
        let t = r.is_rank j q in
        let F : ℕ → Type 0 = λ n. Falls (raised r.rank k r.top) n (children_in t.0.instrs.items) in
        (t.0, t.1, subst F (sym same) (falls_raised (r.rank j) (children_in t.0.instrs.items) t.2))

    raised_below : (j : ℕ) → raised r.rank k r.top j < suc r.top
    raised_below j = let p = r.below j in grind (arith, nat_tests, p)

    raised_done : (c : ℕ) → mark_at (slice_set ms k Done) c ≡ Done → (c ≡ k) ⊎ (c ≡ k → ⊥) → 0 < raised r.rank k r.top c
    raised_done c d (inl same) = omega (arith, raised_same r.rank k r.top c same, r.below k)
    raised_done c d (inr ne) = omega (arith, raised_other r.rank k r.top c ne, r.done c (sym (set_other ms k c Done ne) ∙ d))

  kept_done : 0 < r.rank k → (c : ℕ) → mark_at (slice_set ms k Done) c ≡ Done → (c ≡ k) ⊎ (c ≡ k → ⊥) → 0 < r.rank c
  kept_done p c d (inl same) = let at : r.rank c ≡ r.rank k = ap r.rank same in omega arith
  kept_done p c d (inr ne) = r.done c (sym (set_other ms k c Done ne) ∙ d)

  leave_ranked : (s : InstrSeq) → slice_get b k ≡ Some s → AllSettled ms [] (held (slice_get b k)) → (0 < r.rank k) ⊎ (r.rank k ≤ 0) → Ranked b (slice_set ms k Done)
  leave_ranked s e all (inl p) = record { rank = r.rank; top = r.top; is_rank = r.is_rank; below = r.below; done = λ c d. kept_done p c d (cases_eq c k) }
  leave_ranked s e all (inr none) =
      let F : Option InstrSeq → Type 0 = λ o. AllSettled ms [] (held o) in
      let held_all = subst F e all in
      record {
        rank = raised r.rank k r.top;
        top = suc r.top;
        is_rank = λ j p. raised_is_rank_at none s e held_all j p (cases_eq j k);
        below = raised_below none;
        done = λ c d. raised_done none c d (cases_eq c k);
      }

-- a known sequence
pub seq_at : (b : List InstrSeq) (k : ℕ) → k < length b → (s : InstrSeq) × (slice_get b k ≡ Some s)
seq_at [] k l = absurd (omega arith)
seq_at (s ∷ b) zero l = (s, refl)
seq_at (s ∷ b) (suc k) l = seq_at b k (omega arith)

pub checks_leave : (b : List InstrSeq) (start : ℕ) (ms : List Mark) (fs : List Step) (k i : ℕ) → k < length ms → k < length b → Checks b start ms (fs ++ Resume k i ∷ []) → Checks b start (slice_set ms k Done) fs
checks_leave b start ms fs k i l m h =
    let s = seq_at b k m in
    checks_leave_as b start ms fs k i l (leave_ranked b ms k l h.ranked s.0 s.1 (settles_last b start ms fs k i fs h.settles) (cases_lt 0 (h.ranked.rank k))) h

-- ---- the ends of the test
pub checks_end : (b : List InstrSeq) (start : ℕ) (ms : List Mark) → Checks b start ms [] → IsNested b start
checks_end b start ms h = record { rank = h.ranked.rank; is_rank = h.ranked.is_rank; ranked = at h.meant }
  where
    at : Settled ms [] start → 0 < h.ranked.rank start
    at (inl d) = h.ranked.done start d
    at (inr z) = absurd z

pub checks_again : (b : List InstrSeq) (start : ℕ) (ms : List Mark) (fs : List Step) (k : ℕ) → mark_at ms k ≡ Open → Checks b start ms (fs ++ Enter k ∷ []) → IsNested b start → ⊥
checks_again b start ms fs k o h n = at (leaves_split k fs (Enter k ∷ []) (h.opened k o))
  where
    at : Leaves k fs ⊎ Leaves k (Enter k ∷ []) → ⊥
    at (inl x) = below_open n.rank (n.rank start + 1) fs k x (h.falls n.rank n.is_rank n.ranked)
    at (inr z) = z

pub checks_unknown : (b : List InstrSeq) (start : ℕ) (ms : List Mark) (fs : List Step) (k : ℕ) → length b ≤ k → Checks b start ms (fs ++ Enter k ∷ []) → IsNested b start → ⊥
checks_unknown b start ms fs k l h n =
    let p = below_last n.rank (n.rank start + 1) fs k (h.falls n.rank n.is_rank n.ranked) in
    let s = n.is_rank k p.0 in
    let within : k < length b = slice_get_within b k s.0 s.1 in
    omega arith

pub checks_begin : (b : List InstrSeq) (start : ℕ) (ms : List Mark) → ((k : ℕ) → mark_at ms k ≡ Fresh) → Checks b start ms (Enter start ∷ [])
checks_begin b start ms fresh = record {
  ranked = record { rank = λ _. 0; top = 1; is_rank = λ k p. absurd (omega arith); below = λ k. omega arith; done = λ k d. let f = fresh k in cc };
  settles = tt;
  opened = λ k o. let f = fresh k in cc;
  known = (tt, tt);
  falls = λ rank ir p. (p, omega arith, tt);
  meant = inr (inl refl);
}

-- ---- the measure
pub work_set : (b : List InstrSeq) (ms : List Mark) (k : ℕ) (s : InstrSeq) (m : Mark) → slice_get b k ≡ Some s → k < length ms → work b (slice_set ms k m) + turns_of s (mark_at ms k) ≡ work b ms + turns_of s m
work_set [] ms k s m e l = cc
work_set (t ∷ b) [] k s m e l = absurd (omega arith)
work_set (t ∷ b) (n ∷ ms) zero s m e l =
    let same : t ≡ s = cc in
    let F : InstrSeq → Type 0 = λ u. (turns_of t m + work b ms) + turns_of u n ≡ (turns_of t n + work b ms) + turns_of u m in
    subst F same (omega arith)
work_set (t ∷ b) (n ∷ ms) (suc k) s m e l = omega (arith, work_set b ms k s m e (omega arith))

entering_length : (ks : List ℕ) → length (entering ks) ≡ length ks
entering_length [] = refl
entering_length (k ∷ ks) = omega (arith, entering_length ks, length-append (entering ks) (Enter k ∷ []))

pub pushed_length : (is : List (Instr × InstrLocId)) → length (pushed is) ≡ length (children_in is)
pushed_length [] = refl
pushed_length (i ∷ is) = omega (arith, pushed_length is, entering_length (children i.0), length-append (entering (children i.0)) (pushed is), length-append (children i.0) (children_in is))

-- ---- reads
-- the mark read at an index that equals an id
pub mark_read : (ms : List Mark) (k j : ℕ) (d m : Mark) → j ≡ k → k < length ms → get_or ms j d ≡ m → mark_at ms k ≡ m
mark_read ms k j d m e l r =
    let F : ℕ → Type 0 = λ i. get_or ms i d ≡ m in
    get_or_at ms k d Fresh l ∙ subst F e r
  where
    get_or_at : (xs : List Mark) (i : ℕ) (d f : Mark) → i < length xs → get_or xs i f ≡ get_or xs i d
    get_or_at [] i d f l = absurd (omega arith)
    get_or_at (x ∷ xs) zero d f l = refl
    get_or_at (x ∷ xs) (suc i) d f l = get_or_at xs i d f (omega arith)

-- one more fresh mark
pub fresh_more : (ms : List Mark) → ((k : ℕ) → mark_at ms k ≡ Fresh) → (k : ℕ) → mark_at (ms ++ Fresh ∷ []) k ≡ Fresh
fresh_more [] h zero = refl
fresh_more [] h (suc k) = refl
fresh_more (m ∷ ms) h zero = h 0
fresh_more (m ∷ ms) h (suc k) = fresh_more ms (λ i. h (suc i)) k

-- the steps pushed as a sequence is entered
pub all_pushed : (fs gs hs : List Step) (k : ℕ) (is js : List (Instr × InstrLocId)) → hs ≡ gs ++ pushed js → gs ≡ fs ++ Resume k 0 ∷ [] → js ≡ is → hs ≡ fs ++ Resume k 0 ∷ pushed is
all_pushed fs gs hs k is js h g e =
    h ∙ ap (λ (es : List Step). es ++ pushed js) g ∙ append_assoc fs (Resume k 0 ∷ []) (pushed js) ∙ ap (λ (xs : List (Instr × InstrLocId)). fs ++ Resume k 0 ∷ pushed xs) e

-- to enter a fresh sequence takes from the work
pub enters_less : (b : List InstrSeq) (ms : List Mark) (fs hs : List Step) (k : ℕ) (s : InstrSeq) → slice_get b k ≡ Some s → k < length ms → mark_at ms k ≡ Fresh → hs ≡ fs ++ Resume k 0 ∷ pushed s.instrs.items
    → work b (slice_set ms k Open) + length hs < work b ms + length fs + 1
enters_less b ms fs hs k s e l fresh h =
    let F : Mark → Type 0 = λ m. work b (slice_set ms k Open) + turns_of s m ≡ work b ms + turns_of s Open in
    let w = subst F fresh (work_set b ms k s Open e l) in
    omega (arith, w, ap length h, length-append fs (Resume k 0 ∷ pushed s.instrs.items), pushed_length s.instrs.items)

-- to leave a sequence adds no work
pub leaves_less : (b : List InstrSeq) (ms : List Mark) (k : ℕ) → k < length b → k < length ms → work b (slice_set ms k Done) ≤ work b ms
leaves_less b ms k l m =
    let s = seq_at b k l in
    omega (arith, work_set b ms k s.0 Done s.1 m)

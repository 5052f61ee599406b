-- The test of nesting: what each of its steps keeps.
use Rattle.std.proofs.Common.{ℕ, ◌<◌, List, [], ◌∷◌, ◌++◌, refl, sym, subst, arith, ◌⊎◌, inl, inr, append_assoc}
use Rattle.std.specs.Prelude.{slice_get}
use Rattle.walrus_instr.specs.declared.instr.Instr.{Instr}
use Rattle.walrus_instr.specs.declared.seq.InstrLocId.{InstrLocId}
use Rattle.walrus_instr.specs.declared.seq.InstrSeq.{InstrSeq}
use Rattle.walrus_walks.specs.declared.nesting.Mark.{Mark}
use Rattle.walrus_walks.specs.declared.steps.Step.{Step}
use Rattle.walrus_walks.specs.declared.steps.Step.TheVariants.{Enter, Resume}
use Rattle.walrus_walks.specs.Tree.{children, children_in, Falls}
use Rattle.walrus_walks.specs.Steps.{entering}
use Rattle.walrus_walks.specs.Checks.{pushed, held, Waits, Settled, AllSettled, Settles, Leaves, AllKnown, Below}

-- ---- waiting
pub waits_front : (k : ℕ) (fs gs : List Step) → Waits k fs → Waits k (fs ++ gs)
waits_front k [] gs h = absurd h
waits_front k (f ∷ fs) gs (inl e) = inl e
waits_front k (f ∷ fs) gs (inr w) = inr (waits_front k fs gs w)

pub waits_back : (k : ℕ) (fs gs : List Step) → Waits k gs → Waits k (fs ++ gs)
waits_back k [] gs h = h
waits_back k (f ∷ fs) gs h = inr (waits_back k fs gs h)

pub waits_split : (k : ℕ) (fs gs : List Step) → Waits k (fs ++ gs) → Waits k fs ⊎ Waits k gs
waits_split k [] gs h = inr h
waits_split k (f ∷ fs) gs (inl e) = inl (inl e)
waits_split k (f ∷ fs) gs (inr w) = elim (waits_split k fs gs w) as (λ _. Waits k (f ∷ fs) ⊎ Waits k gs) [ inl x ↦ inl (inr x) | inr y ↦ inr y ]

-- ---- settled
pub settled_map : (ms ns : List Mark) (fs gs : List Step) → ((k : ℕ) → Settled ms fs k → Settled ns gs k) → (ks : List ℕ) → AllSettled ms fs ks → AllSettled ns gs ks
settled_map ms ns fs gs keep [] h = tt
settled_map ms ns fs gs keep (k ∷ ks) h = (keep k h.0, settled_map ms ns fs gs keep ks h.1)

settled_front : (ms : List Mark) (fs gs : List Step) (k : ℕ) → Settled ms fs k → Settled ms (fs ++ gs) k
settled_front ms fs gs k (inl d) = inl d
settled_front ms fs gs k (inr w) = inr (waits_front k fs gs w)

settled_back : (ms : List Mark) (fs gs : List Step) (k : ℕ) → Settled ms gs k → Settled ms (fs ++ gs) k
settled_back ms fs gs k (inl d) = inl d
settled_back ms fs gs k (inr w) = inr (waits_back k fs gs w)

settled_append : (ms : List Mark) (fs : List Step) (xs ys : List ℕ) → AllSettled ms fs xs → AllSettled ms fs ys → AllSettled ms fs (xs ++ ys)
settled_append ms fs [] ys h g = g
settled_append ms fs (x ∷ xs) ys h g = (h.0, settled_append ms fs xs ys h.1 g)

settled_entering : (ms : List Mark) (ks : List ℕ) → AllSettled ms (entering ks) ks
settled_entering ms [] = tt
settled_entering ms (k ∷ ks) = (
  inr (waits_back k (entering ks) (Enter k ∷ []) (inl refl)),
  settled_map ms ms (entering ks) (entering ks ++ Enter k ∷ []) (settled_front ms (entering ks) (Enter k ∷ [])) ks (settled_entering ms ks),
)

pub settled_pushed : (ms : List Mark) (is : List (Instr × InstrLocId)) → AllSettled ms (pushed is) (children_in is)
settled_pushed ms [] = tt
settled_pushed ms (i ∷ is) =
    let es = entering (children i.0) in
    settled_append ms (es ++ pushed is) (children i.0) (children_in is)
    (settled_map ms ms es (es ++ pushed is) (settled_front ms es (pushed is)) (children i.0) (settled_entering ms (children i.0)))
    (settled_map ms ms (pushed is) (es ++ pushed is) (settled_back ms es (pushed is)) (children_in is) (settled_pushed ms is))

-- ---- what settles stays so, where each settled sequence does
pub settles_step : (b : List InstrSeq) (ms ns : List Mark) (f : Step) (gs : List Step) → ((hs : List Step) (k : ℕ) → Settled ms (hs ++ f ∷ []) k → Settled ns (hs ++ gs) k) → Settles b ns gs → (fs : List Step) → Settles b ms (fs ++ f ∷ []) → Settles b ns (fs ++ gs)
settles_step b ms ns f gs keep over [] h = over
settles_step b ms ns f gs keep over (Enter k ∷ fs) h = settles_step b ms ns f gs keep over fs h
settles_step b ms ns f gs keep over (Resume k i ∷ fs) h =
    (settled_map ms ns (fs ++ f ∷ []) (fs ++ gs) (keep fs) (held (slice_get b k)) h.0, settles_step b ms ns f gs keep over fs h.1)

settles_entering : (b : List InstrSeq) (ms : List Mark) (ks : List ℕ) (gs : List Step) → Settles b ms gs → Settles b ms (entering ks ++ gs)
settles_entering b ms [] gs h = h
settles_entering b ms (k ∷ ks) gs h =
    let F : List Step → Type 0 = Settles b ms in
    subst F (sym (append_assoc (entering ks) (Enter k ∷ []) gs)) (settles_entering b ms ks (Enter k ∷ gs) h)

pub settles_pushed : (b : List InstrSeq) (ms : List Mark) (is : List (Instr × InstrLocId)) → Settles b ms (pushed is)
settles_pushed b ms [] = tt
settles_pushed b ms (i ∷ is) = settles_entering b ms (children i.0) (pushed is) (settles_pushed b ms is)

-- ---- leaving
pub leaves_front : (k : ℕ) (fs gs : List Step) → Leaves k fs → Leaves k (fs ++ gs)
leaves_front k [] gs h = absurd h
leaves_front k (Enter _ ∷ fs) gs h = leaves_front k fs gs h
leaves_front k (Resume _ _ ∷ fs) gs (inl e) = inl e
leaves_front k (Resume _ _ ∷ fs) gs (inr w) = inr (leaves_front k fs gs w)

pub leaves_back : (k : ℕ) (fs gs : List Step) → Leaves k gs → Leaves k (fs ++ gs)
leaves_back k [] gs h = h
leaves_back k (Enter _ ∷ fs) gs h = leaves_back k fs gs h
leaves_back k (Resume _ _ ∷ fs) gs h = inr (leaves_back k fs gs h)

pub leaves_split : (k : ℕ) (fs gs : List Step) → Leaves k (fs ++ gs) → Leaves k fs ⊎ Leaves k gs
leaves_split k [] gs h = inr h
leaves_split k (Enter _ ∷ fs) gs h = leaves_split k fs gs h
leaves_split k (Resume j i ∷ fs) gs (inl e) = inl (inl e)
leaves_split k (Resume j i ∷ fs) gs (inr w) = elim (leaves_split k fs gs w) as (λ _. Leaves k (Resume j i ∷ fs) ⊎ Leaves k gs) [ inl x ↦ inl (inr x) | inr y ↦ inr y ]

-- ---- known
pub known_front : (b : List InstrSeq) (fs gs : List Step) → AllKnown b (fs ++ gs) → AllKnown b fs × AllKnown b gs
known_front b [] gs h = (tt, h)
known_front b (f ∷ fs) gs h = let p = known_front b fs gs h.1 in ((h.0, p.0), p.1)

pub known_append : (b : List InstrSeq) (fs gs : List Step) → AllKnown b fs → AllKnown b gs → AllKnown b (fs ++ gs)
known_append b [] gs h g = g
known_append b (f ∷ fs) gs h g = (h.0, known_append b fs gs h.1 g)

known_entering : (b : List InstrSeq) (ks : List ℕ) → AllKnown b (entering ks)
known_entering b [] = tt
known_entering b (k ∷ ks) = known_append b (entering ks) (Enter k ∷ []) (known_entering b ks) (tt, tt)

pub known_pushed : (b : List InstrSeq) (is : List (Instr × InstrLocId)) → AllKnown b (pushed is)
known_pushed b [] = tt
known_pushed b (i ∷ is) = known_append b (entering (children i.0)) (pushed is) (known_entering b (children i.0)) (known_pushed b is)

-- ---- falling ranks
pub below_step : (rank : ℕ → ℕ) (f : Step) (gs : List Step) → ((m : ℕ) → Below rank m (f ∷ []) → Below rank m gs) → (n : ℕ) (fs : List Step) → Below rank n (fs ++ f ∷ []) → Below rank n (fs ++ gs)
below_step rank f gs swap n [] h = swap n h
below_step rank f gs swap n (Enter k ∷ fs) h = (h.0, h.1, below_step rank f gs swap n fs h.2)
below_step rank f gs swap n (Resume k i ∷ fs) h = (h.0, h.1, below_step rank f gs swap (rank k) fs h.2)

falls_split : (rank : ℕ → ℕ) (n : ℕ) (xs ys : List ℕ) → Falls rank n (xs ++ ys) → Falls rank n xs × Falls rank n ys
falls_split rank n [] ys h = (tt, h)
falls_split rank n (x ∷ xs) ys h = let p = falls_split rank n xs ys h.2 in ((h.0, h.1, p.0), p.1)

below_entering : (rank : ℕ → ℕ) (n : ℕ) (ks : List ℕ) (gs : List Step) → Falls rank n ks → Below rank n gs → Below rank n (entering ks ++ gs)
below_entering rank n [] gs f h = h
below_entering rank n (k ∷ ks) gs f h =
    let F : List Step → Type 0 = Below rank n in
    subst F (sym (append_assoc (entering ks) (Enter k ∷ []) gs)) (below_entering rank n ks (Enter k ∷ gs) f.2 (f.0, f.1, h))

pub below_pushed : (rank : ℕ → ℕ) (n : ℕ) (is : List (Instr × InstrLocId)) → Falls rank n (children_in is) → Below rank n (pushed is)
below_pushed rank n [] f = tt
below_pushed rank n (i ∷ is) f =
    let p = falls_split rank n (children i.0) (children_in is) f in
    below_entering rank n (children i.0) (pushed is) p.0 (below_pushed rank n is p.1)

-- the last step's rank is below all bounds before it
pub below_last : (rank : ℕ → ℕ) (n : ℕ) (fs : List Step) (k : ℕ) → Below rank n (fs ++ Enter k ∷ []) → (0 < rank k) × (rank k < n)
below_last rank n [] k h = (h.0, h.1)
below_last rank n (Enter _ ∷ fs) k h = below_last rank n fs k h.2
below_last rank n (Resume j i ∷ fs) k h =
    let p = below_last rank (rank j) fs k h.2 in
    let l = h.1 in
    (p.0, omega (arith, p.1, l))

-- no sequence that will be left is entered again above that
pub below_open : (rank : ℕ → ℕ) (n : ℕ) (fs : List Step) (k : ℕ) → Leaves k fs → Below rank n (fs ++ Enter k ∷ []) → ⊥
below_open rank n [] k w h = absurd w
below_open rank n (Enter _ ∷ fs) k w h = below_open rank n fs k w h.2
below_open rank n (Resume j i ∷ fs) k (inl e) h =
    let p = below_last rank (rank j) fs k h.2 in
    let l : rank k < rank k = subst (λ (m : ℕ). rank k < rank m) e p.1 in
    omega (arith, l)
below_open rank n (Resume j i ∷ fs) k (inr w) h = below_open rank (rank j) fs k w h.2

-- Marks of sequences that are entered and left, and the ids that stay fresh.
use Rattle.std.proofs.Common.{ℕ, zero, suc, ◌+◌, ◌-◌, ◌<◌, ◌≤◌, ◌≡◌, List, [], ◌∷◌, ◌++◌, length, get_or, Some, refl, sym, ap, subst, arith, ◌∙◌, ◌⊎◌, inl, inr}
use Rattle.std.specs.Prelude.{slice_get, slice_set}
use Rattle.std.proofs.lemmas.Bool.{cases_eq}
use Rattle.std.proofs.lemmas.List.{get_or-set_same, get_or-set_other}
use Rattle.walrus_builder.specs.walrus_walks.walrus_instr.declared.seq.InstrSeq.{InstrSeq}
use Rattle.walrus_builder.specs.walrus_walks.Tree.{children_in}
use Rattle.walrus_tree.specs.declared.marks.Mark.{Mark}
use Rattle.walrus_tree.specs.declared.marks.Mark.TheVariants.{Fresh, Open, Done}
use Rattle.walrus_tree.specs.Trees.{Has, AreDistinct}
use Rattle.walrus_tree.specs.Testing.{mark_at, AllFresh, Marked, turns_of, work}

set_same : (ms : List Mark) (k c : ℕ) (m : Mark) → k < length ms → c ≡ k → mark_at (slice_set ms k m) c ≡ m
set_same ms k c m l e =
    let F : ℕ → Type 0 = λ i. mark_at (slice_set ms k m) i ≡ m in
    subst F (sym e) (get_or-set_same ms k m Fresh l)

set_other : (ms : List Mark) (k c : ℕ) (m : Mark) → (c ≡ k → ⊥) → mark_at (slice_set ms k m) c ≡ mark_at ms c
set_other ms k c m n = get_or-set_other ms k c m Fresh n

-- a mark other than the one set stood before
was : (ms : List Mark) (k c : ℕ) (m n : Mark) → k < length ms → (m ≡ n → ⊥) → mark_at (slice_set ms k m) c ≡ n → (c ≡ k) ⊎ (c ≡ k → ⊥) → (c ≡ k → ⊥) × (mark_at ms c ≡ n)
was ms k c m n l other h (inl e) = absurd (other (sym (set_same ms k c m l e) ∙ h))
was ms k c m n l other h (inr ne) = (ne, sym (set_other ms k c m ne) ∙ h)

-- the mark that was read
pub mark_read : (ms : List Mark) (k j : ℕ) (d m : Mark) → j ≡ k → k < length ms → get_or ms j d ≡ m → mark_at ms k ≡ m
mark_read ms k j d m e l r =
    let F : ℕ → Type 0 = λ i. get_or ms i d ≡ m in
    get_or_at ms k d Fresh l ∙ subst F e r
  where
    get_or_at : (xs : List Mark) (i : ℕ) (d f : Mark) → i < length xs → get_or xs i f ≡ get_or xs i d
    get_or_at [] i d f l = absurd (omega arith)
    get_or_at (x ∷ xs) zero d f l = refl
    get_or_at (x ∷ xs) (suc i) d f l = get_or_at xs i d f (omega arith)

-- what is marked is known
pub mark_known : (ms : List Mark) (k : ℕ) → mark_at ms k ≡ Open → k < length ms
mark_known [] k h = absurd (let e : Fresh ≡ Open = h in cc)
mark_known (m ∷ ms) zero h = omega arith
mark_known (m ∷ ms) (suc k) h = let l = mark_known ms k h in omega (arith, l)

-- ---- lists of ids
pub has_middle : (x y : List ℕ) (k : ℕ) → Has (x ++ k ∷ y) k
has_middle [] y k = inl refl
has_middle (j ∷ x) y k = inr (has_middle x y k)

has_skip : (x y : List ℕ) (k j : ℕ) → Has (x ++ y) j → Has (x ++ k ∷ y) j
has_skip [] y k j h = inr h
has_skip (i ∷ x) y k j (inl e) = inl e
has_skip (i ∷ x) y k j (inr h) = inr (has_skip x y k j h)

has_or : (x y : List ℕ) (k j : ℕ) → Has (x ++ k ∷ y) j → (k ≡ j) ⊎ Has (x ++ y) j
has_or [] y k j h = h
has_or (i ∷ x) y k j (inl e) = inr (inl e)
has_or (i ∷ x) y k j (inr h) = elim (has_or x y k j h) as (λ _. (k ≡ j) ⊎ Has (i ∷ (x ++ y)) j) [ inl e ↦ inl e | inr g ↦ inr (inr g) ]

-- ---- fresh ids
pub fresh_at : (ms : List Mark) (ks : List ℕ) (k : ℕ) → AllFresh ms ks → Has ks k → mark_at ms k ≡ Fresh
fresh_at ms (j ∷ ks) k h (inl e) = ap (mark_at ms) (sym e) ∙ h.0
fresh_at ms (j ∷ ks) k h (inr g) = fresh_at ms ks k h.1 g
fresh_at ms [] k h g = absurd g

module _ (ms : List Mark) (k : ℕ) (l : k < length ms) where
  still_fresh : (y : List ℕ) → AllFresh ms y → (Has y k → ⊥) → AllFresh (slice_set ms k Open) y
  still_fresh [] h n = tt
  still_fresh (j ∷ y) h n = (set_other ms k j Open (λ e. n (inl e)) ∙ h.0, still_fresh y h.1 (λ g. n (inr g)))

  was_fresh : (y : List ℕ) → AllFresh (slice_set ms k Open) y → AllFresh ms y
  was_fresh [] h = tt
  was_fresh (j ∷ y) h = ((was ms k j Open Fresh l (λ q. cc) h.0 (cases_eq j k)).1, was_fresh y h.1)

  not_in : (y : List ℕ) → AllFresh (slice_set ms k Open) y → Has y k → ⊥
  not_in y h g = (was ms k k Open Fresh l (λ q. cc) (fresh_at (slice_set ms k Open) y k h g) (cases_eq k k)).0 refl

  -- a sequence is entered: its id goes
  pub fresh_out : (x y : List ℕ) → AllFresh ms (x ++ k ∷ y) → AreDistinct (x ++ k ∷ y) → AllFresh (slice_set ms k Open) (x ++ y) × AreDistinct (x ++ y)
  fresh_out [] y f d = (still_fresh y f.1 d.0, d.1)
  fresh_out (j ∷ x) y f d =
      let rest = fresh_out x y f.1 d.1 in
      let other : j ≡ k → ⊥ = λ e. d.0 (let F : ℕ → Type 0 = Has (x ++ k ∷ y) in subst F (sym e) (has_middle x y k)) in
      ((set_other ms k j Open other ∙ f.0, rest.0), (λ h. d.0 (has_skip x y k j h), rest.1))

  -- and comes back
  pub fresh_in : (x y : List ℕ) → mark_at ms k ≡ Fresh → AllFresh (slice_set ms k Open) (x ++ y) → AreDistinct (x ++ y) → AllFresh ms (x ++ k ∷ y) × AreDistinct (x ++ k ∷ y)
  fresh_in [] y e f d = ((e, was_fresh y f), (not_in y f, d))
  fresh_in (j ∷ x) y e f d =
      let rest = fresh_in x y e f.1 d.1 in
      let before = was ms k j Open Fresh l (λ q. cc) f.0 (cases_eq j k) in
      let new : Has (x ++ k ∷ y) j → ⊥ = λ h. elim (has_or x y k j h) as (λ _. ⊥) [ inl q ↦ before.0 (sym q) | inr g ↦ d.0 g ] in
      ((before.1, rest.0), (new, rest.1))

  -- a sequence is left: what is fresh stays so
  pub fresh_left : (ks : List ℕ) → mark_at ms k ≡ Open → AllFresh ms ks → AllFresh (slice_set ms k Done) ks
  fresh_left [] e h = tt
  fresh_left (j ∷ ks) e h =
      let other : j ≡ k → ⊥ = λ q. (let c : Fresh ≡ Open = sym h.0 ∙ ap (mark_at ms) q ∙ e in cc) in
      (set_other ms k j Done other ∙ h.0, fresh_left ks e h.1)

  pub left_fresh : (ks : List ℕ) → AllFresh (slice_set ms k Done) ks → AllFresh ms ks
  left_fresh [] h = tt
  left_fresh (j ∷ ks) h = ((was ms k j Done Fresh l (λ q. cc) h.0 (cases_eq j k)).1, left_fresh ks h.1)

  -- ---- what is around
  enter_known : (around : List ℕ) → ((c : ℕ) → mark_at ms c ≡ Open → Has around c) → (c : ℕ) → mark_at (slice_set ms k Open) c ≡ Open → (c ≡ k) ⊎ (c ≡ k → ⊥) → Has (k ∷ around) c
  enter_known around h c o (inl e) = inl (sym e)
  enter_known around h c o (inr n) = inr (h c (sym (set_other ms k c Open n) ∙ o))

  enter_opens : (around : List ℕ) → ((c : ℕ) → Has around c → mark_at ms c ≡ Open) → mark_at ms k ≡ Fresh → (c : ℕ) → Has (k ∷ around) c → mark_at (slice_set ms k Open) c ≡ Open
  enter_opens around h f c (inl e) = set_same ms k c Open l (sym e)
  enter_opens around h f c (inr g) =
      let o = h c g in
      set_other ms k c Open (λ e. (let q : Fresh ≡ Open = sym f ∙ ap (mark_at ms) (sym e) ∙ o in cc)) ∙ o

  pub marked_enter : (depth : ℕ) (around : List ℕ) → mark_at ms k ≡ Fresh → Marked ms depth around → Marked (slice_set ms k Open) (depth + 1) (k ∷ around)
  marked_enter depth around f h = record {
    known = λ c o. enter_known around h.known c o (cases_eq c k);
    opens = enter_opens around h.opens f;
    distinct = (λ g. (let q : Fresh ≡ Open = sym f ∙ h.opens k g in cc), h.distinct);
    counted = let e = h.counted in omega (arith, e);
  }

  leave_known : (around : List ℕ) (c : ℕ) → (c ≡ k → ⊥) → Has (k ∷ around) c → Has around c
  leave_known around c n (inl e) = absurd (n (sym e))
  leave_known around c n (inr g) = g

  pub marked_leave : (depth : ℕ) (around : List ℕ) → Marked ms depth (k ∷ around) → Marked (slice_set ms k Done) (depth - 1) around
  marked_leave depth around h = record {
    known = λ c o. (let p = was ms k c Done Open l (λ q. cc) o (cases_eq c k) in leave_known around c p.0 (h.known c p.1));
    opens = λ c g. (let n : c ≡ k → ⊥ = λ e. h.distinct.0 (let F : ℕ → Type 0 = Has around in subst F e g) in set_other ms k c Done n ∙ h.opens c (inr g));
    distinct = h.distinct.1;
    counted = let e = h.counted in omega (arith, e);
  }

-- ---- the turns that are left
pub work_enter : (b : List InstrSeq) (ms : List Mark) (k : ℕ) (s : InstrSeq) → slice_get b k ≡ Some s → k < length ms → mark_at ms k ≡ Fresh → work b (slice_set ms k Open) + (2 + length (children_in s.instrs.items)) ≡ work b ms
work_enter [] ms k s e l f = absurd (let none = e in cc)
work_enter (x ∷ b) [] k s e l f = absurd (omega (arith, l))
work_enter (x ∷ b) (m ∷ ms) zero s e l f =
    let same : x ≡ s = cc in
    let turns : turns_of x m ≡ 2 + length (children_in s.instrs.items) = ap (turns_of x) f ∙ ap (λ (y : InstrSeq). 2 + length (children_in y.instrs.items)) same in
    omega (arith, turns)
work_enter (x ∷ b) (m ∷ ms) (suc k) s e l f = let r = work_enter b ms k s e (omega (arith, l)) f in omega (arith, r)

pub work_leave : (b : List InstrSeq) (ms : List Mark) (k : ℕ) → work b (slice_set ms k Done) ≤ work b ms
work_leave [] ms k = omega arith
work_leave (s ∷ b) [] k = omega arith
work_leave (s ∷ b) (m ∷ ms) zero = omega arith
work_leave (s ∷ b) (m ∷ ms) (suc k) = let r = work_leave b ms k in omega (arith, r)

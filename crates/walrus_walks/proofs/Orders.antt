-- The order of the walk that changes, and what is left of it by the steps on its list.
use Rattle.std.proofs.Common.{ℕ, zero, suc, ◌<◌, ◌≤◌, ◌≡◌, List, [], ◌∷◌, ◌++◌, length, map, Option, Some, refl, sym, ap, subst, arith, ◌∙◌, append_assoc}
use Rattle.std.specs.Prelude.{slice_get}
use Rattle.std.specs.List.{FoldsTo}
use Rattle.std.proofs.lemmas.List.{append-nil, length-map}
use Rattle.walrus_instr.specs.declared.instr.Instr.{Instr}
use Rattle.walrus_instr.specs.declared.seq.InstrLocId.{InstrLocId}
use Rattle.walrus_instr.specs.declared.seq.InstrSeq.{InstrSeq}
use Rattle.walrus_walks.specs.declared.steps.Step.{Step}
use Rattle.walrus_walks.specs.declared.steps.Step.TheVariants.{Enter}
use Rattle.walrus_walks.specs.Tree.{children, children_in, Falls, IsRank, IsNested}
use Rattle.walrus_walks.specs.Steps.{entering, id_of, AreSteps}
use Rattle.walrus_walks.specs.Fronts.{FoldsFront}
use Rattle.walrus_walks.specs.Order.{last_first, held_by, orders, order_of, order_within, order}
use Rattle.walrus_walks.proofs.Nested.{AllNested, count_most, nested_known, nested_seq, nested_split, squeezed, squeezed_some, squeezed_is_rank}
use Rattle.walrus_walks.proofs.Turns.{steps_last, steps_entering}

-- ---- what holds of all sequences that are held, holds of them last first
pub falls_split : (rank : ℕ → ℕ) (t : ℕ) (xs ys : List ℕ) → Falls rank t (xs ++ ys) → Falls rank t xs × Falls rank t ys
falls_split rank t [] ys h = (tt, h)
falls_split rank t (x ∷ xs) ys h = let p = falls_split rank t xs ys h.2 in ((h.0, h.1, p.0), p.1)

pub falls_append : (rank : ℕ → ℕ) (t : ℕ) (xs ys : List ℕ) → Falls rank t xs → Falls rank t ys → Falls rank t (xs ++ ys)
falls_append rank t [] ys h g = g
falls_append rank t (x ∷ xs) ys h g = (h.0, h.1, falls_append rank t xs ys h.2 g)

pub falls_last_first : (rank : ℕ → ℕ) (t : ℕ) (is : List (Instr × InstrLocId)) → Falls rank t (children_in is) → Falls rank t (last_first is)
falls_last_first rank t [] h = tt
falls_last_first rank t (i ∷ is) h =
    let p = falls_split rank t (children i.0) (children_in is) h in
    falls_append rank t (last_first is) (children i.0) (falls_last_first rank t is p.1) p.0

nested_append : (b : List InstrSeq) (xs ys : List ℕ) → AllNested b xs → AllNested b ys → AllNested b (xs ++ ys)
nested_append b [] ys h g = g
nested_append b (x ∷ xs) ys h g = (h.0, nested_append b xs ys h.1 g)

nested_last_first : (b : List InstrSeq) (is : List (Instr × InstrLocId)) → AllNested b (children_in is) → AllNested b (last_first is)
nested_last_first b [] h = tt
nested_last_first b (i ∷ is) h =
    let p = nested_split b (children i.0) (children_in is) h in
    nested_append b (last_first is) (children i.0) (nested_last_first b is p.1) p.0

-- ---- an order deep enough is as good as a deeper one
pub orders_agree : (rank : ℕ → ℕ) (w v : ℕ → List ℕ) (t : ℕ) → ((c : ℕ) → 0 < rank c → rank c < t → w c ≡ v c) → (ks : List ℕ) → Falls rank t ks → orders w ks ≡ orders v ks
orders_agree rank w v t same [] f = refl
orders_agree rank w v t same (c ∷ cs) f =
    let e = same c f.0 f.1 in
    let g = orders_agree rank w v t same cs f.2 in
    cc

order_agrees : (w v : ℕ → List ℕ) (k : ℕ) (o : Option InstrSeq) (s : InstrSeq) → o ≡ Some s → orders w (held_by s) ≡ orders v (held_by s) → order_of w k o ≡ order_of v k o
order_agrees w v k o s e h =
    let F : Option InstrSeq → Type 0 = λ p. order_of w k p ≡ order_of v k p in
    subst F (sym e) (ap (λ (ks : List ℕ). k ∷ ks) h)

same_order : (b : List InstrSeq) (rank : ℕ → ℕ) → IsRank b rank → (n m k : ℕ) → 0 < rank k → rank k ≤ n → rank k ≤ m → order_within b n k ≡ order_within b m k
same_order b rank r zero m k p h g = absurd (omega arith)
same_order b rank r (suc n) zero k p h g = absurd (omega arith)
same_order b rank r (suc n) (suc m) k p h g =
    let s = r k p in
    let same = λ (c : ℕ) (q : 0 < rank c) (l : rank c < rank k). same_order b rank r n m c q (omega arith) (omega arith) in
    order_agrees (order_within b n) (order_within b m) k (slice_get b k) s.0 s.1
    (orders_agree rank (order_within b n) (order_within b m) (rank k) same (held_by s.0) (falls_last_first rank (rank k) s.0.instrs.items s.2))

-- the order from a nested sequence on is that sequence, then what it holds
pub order_at : (b : List InstrSeq) (k : ℕ) (s : InstrSeq) → IsNested b k → slice_get b k ≡ Some s → order b k ≡ k ∷ orders (order b) (held_by s)
order_at b k s h e =
    let rank = squeezed b h.rank in
    let r = squeezed_is_rank b h.rank h.is_rank in
    let most = count_most h.rank (length b) (h.rank k) in
    let deeper : order_within b (length b) k ≡ order_within b (suc (length b)) k =
    same_order b rank r (length b) (suc (length b)) k (squeezed_some b h.rank h.is_rank k h.ranked) most (omega arith) in
    deeper ∙ ap (order_of (order b) k) e

-- ---- the steps on the list
-- the sequences that are left
abbrev pub ids_left : List InstrSeq → List Step → List ℕ
ids_left b [] = []
ids_left b (f ∷ fs) = ids_left b fs ++ order b (id_of f)

ids_snoc : (b : List InstrSeq) (fs : List Step) (f : Step) → ids_left b (fs ++ f ∷ []) ≡ order b (id_of f) ++ ids_left b fs
ids_snoc b [] f = sym (append-nil (order b (id_of f)))
ids_snoc b (g ∷ fs) f = ap (λ (ks : List ℕ). ks ++ order b (id_of g)) (ids_snoc b fs f) ∙ append_assoc (order b (id_of f)) (ids_left b fs) (order b (id_of g))

ids_entering : (b : List InstrSeq) (fs : List Step) (ks : List ℕ) → ids_left b (fs ++ entering ks) ≡ orders (order b) ks ++ ids_left b fs
ids_entering b fs [] = ap (ids_left b) (append-nil fs)
ids_entering b fs (k ∷ ks) =
    let regroup : ids_left b (fs ++ (entering ks ++ Enter k ∷ [])) ≡ ids_left b ((fs ++ entering ks) ++ Enter k ∷ []) = ap (ids_left b) (sym (append_assoc fs (entering ks) (Enter k ∷ []))) in
    let last = ids_snoc b (fs ++ entering ks) (Enter k) in
    let others = ap (λ (js : List ℕ). order b k ++ js) (ids_entering b fs ks) in
    regroup ∙ last ∙ others ∙ sym (append_assoc (order b k) (orders (order b) ks) (ids_left b fs))

-- ---- one turn, where the sequences hold what they held
held_same : (b c : List InstrSeq) (k : ℕ) (s t : InstrSeq) → map held_by c ≡ map held_by b → slice_get b k ≡ Some s → slice_get c k ≡ Some t → held_by t ≡ held_by s
held_same b [] k s t h e f = let z : ⊥ = cc in absurd z
held_same [] (u ∷ c) k s t h e f = let z : ⊥ = cc in absurd z
held_same (v ∷ b) (u ∷ c) zero s t h e f =
    let es : v ≡ s = cc in
    let et : u ≡ t = cc in
    let heads : held_by u ≡ held_by v = cc in
    sym (ap held_by et) ∙ heads ∙ ap held_by es
held_same (v ∷ b) (u ∷ c) (suc k) s t h e f =
    let tails : map held_by c ≡ map held_by b = cc in
    held_same b c k s t tails e f

module _ (b c : List InstrSeq) (kept : map held_by c ≡ map held_by b) (f : Step) (fs items : List Step) (k : ℕ) (is : k ≡ id_of f) (split : items ≡ fs ++ f ∷ []) (steps : AreSteps b items) where
  last_nested : IsNested b (id_of f) × AreSteps b fs
  last_nested = let F : List Step → Type 0 = AreSteps b in steps_last b fs f (subst F split steps)

  pub turn_known : k < length c
  turn_known = omega (arith, is, nested_known b (id_of f) last_nested.0, ap length kept, length-map b held_by, length-map c held_by)

  module _ (s : InstrSeq) (known : slice_get c k ≡ Some s) (gs : List Step) (pushed : gs ≡ fs ++ entering (held_by s)) where
    held_as : (t : InstrSeq) → slice_get b (id_of f) ≡ Some t → held_by s ≡ held_by t
    held_as t e = held_same b c k t s kept (ap (slice_get b) is ∙ e) known

    pub ids_turn : ids_left b items ≡ k ∷ ids_left b gs
    ids_turn =
        let n = last_nested.0 in
        let t = n.is_rank (id_of f) n.ranked in
        let first = ap (ids_left b) split ∙ ids_snoc b fs f ∙ ap (λ (ks : List ℕ). ks ++ ids_left b fs) (order_at b (id_of f) t.0 n t.1) in
        let id = ap (λ (i : ℕ). i ∷ (orders (order b) (held_by t.0) ++ ids_left b fs)) (sym is) in
        let held = ap (λ (ks : List ℕ). k ∷ (orders (order b) ks ++ ids_left b fs)) (sym (held_as t.0 t.1)) in
        first ∙ id ∙ held ∙ ap (λ (ks : List ℕ). k ∷ ks) (sym (ap (ids_left b) pushed ∙ ids_entering b fs (held_by s)))

    pub steps_turn : AreSteps b gs
    steps_turn =
        let n = last_nested.0 in
        let t = n.is_rank (id_of f) n.ranked in
        let all = nested_last_first b t.0.instrs.items (nested_seq b (id_of f) t.0 n t.1) in
        let F : List ℕ → Type 0 = AllNested b in
        let G : List Step → Type 0 = AreSteps b in
        subst G (sym pushed) (steps_entering b fs (held_by s) last_nested.1 (subst F (sym (held_as t.0 t.1)) all))

    pub ids_less : length (ids_left b gs) < length (ids_left b items)
    ids_less = omega (arith, ap length ids_turn)

    pub walk_turn : {P : Type 0} (R : P → ℕ → P → Type 0) (p q last : P) → R p k q → FoldsTo R q (ids_left b gs) last → FoldsTo R p (ids_left b items) last
    walk_turn R p q last h t =
        let F : List ℕ → Type 0 = λ ks. FoldsTo R p ks last in
        subst F (sym ids_turn) (q, h, t)

    pub front_turn : {P : Type 0} (R : P → ℕ → P → Type 0) (p q last : P) → R p k q → FoldsFront R q (ids_left b gs) last → FoldsFront R p (ids_left b items) last
    front_turn R p q last h t = record {
      part = k ∷ t.part;
      rest = t.rest;
      splits = ids_turn ∙ ap (λ (ks : List ℕ). k ∷ ks) t.splits;
      folds = (q, h, t.folds);
    }

    pub front_step : {P : Type 0} (R : P → ℕ → P → Type 0) (p q : P) → R p k q → FoldsFront R p (ids_left b items) q
    front_step R p q h = record { part = k ∷ []; rest = ids_left b gs; splits = ids_turn; folds = (q, h, λ _. q) }

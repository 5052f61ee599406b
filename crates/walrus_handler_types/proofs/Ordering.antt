-- Lemmas: the sequences of a tree, in the order of its text.
use Rattle.std.proofs.Common.{◌≡◌, ◌∙◌, ◌⊎◌, inl, inr, ℕ, zero, suc, ◌+◌, ◌<◌, ◌≤◌, Bool, true, false, List, [], ◌∷◌, ◌++◌, drop, get_or, length, map, reverse, Option, Some, None, refl, sym, ap, subst, arith, eqb-true, eq-eqb, ne_eqb}
use Rattle.std.proofs.lemmas.Bool.{cases_lt, cases_eq}
use Rattle.std.proofs.lemmas.List.{append_assoc, drop_more, length-append, reverse-append, reverse-reverse}
use Rattle.std.proofs.lemmas.Option.{slice_get_within}
use Rattle.std.specs.Prelude.{◌==◌, slice_get, if◌then◌else◌}
use Rattle.std.specs.List.{AllByRecursion}
use Rattle.walrus_handlers.specs.walrus_handler_laws.Handlers.{AreTold, Slot, all_slots, handler_in, seq_slots, told_by, tree_ids}
use Rattle.walrus_handlers.specs.walrus_handler_laws.declared.handler.Handler.{Handler}
use Rattle.walrus_handlers.specs.walrus_tree.Trees.{AreDistinct, Has, IsTree, Nothing, Stand, Tree, Trees, ids}
use Rattle.walrus_handlers.specs.walrus_tree.walrus_builder.Built.{Seq, seq_of}
use Rattle.walrus_handlers.specs.walrus_tree.walrus_walks.Tree.{children, children_in}
use Rattle.walrus_instr.specs.declared.instr.Instr.{Instr}
use Rattle.walrus_instr.specs.declared.seq.InstrLocId.{InstrLocId}
use Rattle.walrus_instr.specs.declared.seq.InstrSeq.{InstrSeq}
use Rattle.walrus_handlers.proofs.walrus_handler_laws.Counting.{count, once_if, trees_tell}

-- ---- what sequences hold, as trees

-- these sequences are known, and with what they hold they are these trees
abbrev pub Forms : List InstrSeq → Trees → List ℕ → Type 0
Forms b Nothing [] = Unit {0}
Forms b (Tree id inside beside) (k ∷ ks) = (id ≡ k) × (s : InstrSeq) × (slice_get b k ≡ Some s) × Forms b inside (children_in s.instrs.items) × Forms b beside ks
Forms b _ _ = ⊥

pub stand_forms : (b : List InstrSeq) (x : Trees) (around ks : List ℕ) → Stand b x around ks → Forms b x ks
stand_forms b Nothing around [] h = tt
stand_forms b Nothing around (k ∷ ks) h = absurd h
stand_forms b (Tree id inside beside) around [] h = absurd h
stand_forms b (Tree id inside beside) around (k ∷ ks) (same, s, found, within, held, next) =
    (same, s, found, stand_forms b inside (k ∷ around) (children_in s.instrs.items) held, stand_forms b beside around ks next)

-- trees beside others
abbrev pub join : Trees → Trees → Trees
join Nothing y = y
join (Tree id inside beside) y = Tree id inside (join beside y)

ids_join : (x y : Trees) → ids (join x y) ≡ ids x ++ ids y
ids_join Nothing y = refl
ids_join (Tree id inside beside) y =
    ap (λ (l : List ℕ). id ∷ (ids inside ++ l)) (ids_join beside y) ∙ ap (λ (l : List ℕ). id ∷ l) (sym (append_assoc (ids inside) (ids beside) (ids y)))

forms_join : (b : List InstrSeq) (x y : Trees) (ks js : List ℕ) → Forms b x ks → Forms b y js → Forms b (join x y) (ks ++ js)
forms_join b Nothing y [] js h i = i
forms_join b Nothing y (k ∷ ks) js h i = absurd h
forms_join b (Tree id inside beside) y [] js h i = absurd h
forms_join b (Tree id inside beside) y (k ∷ ks) js (same, s, found, held, next) i = (same, s, found, held, forms_join b beside y ks js next i)

forms_there : (b : List InstrSeq) (x : Trees) (ks : List ℕ) → Forms b x ks → AllByRecursion (λ j. j < length b) (ids x)
forms_there b Nothing ks h = tt
forms_there b (Tree id inside beside) [] h = absurd h
forms_there b (Tree id inside beside) (k ∷ ks) (same, s, found, held, next) =
    (subst (λ (j : ℕ). j < length b) (sym same) (slice_get_within b k s found), both (ids inside) (ids beside) (forms_there b inside (children_in s.instrs.items) held) (forms_there b beside ks next))
  where
    both : (xs ys : List ℕ) → AllByRecursion (λ j. j < length b) xs → AllByRecursion (λ j. j < length b) ys → AllByRecursion (λ j. j < length b) (xs ++ ys)
    both [] ys h i = i
    both (x ∷ xs) ys h i = (h.0, both xs ys h.1 i)

abbrev whole : {b : List InstrSeq} → IsTree b 0 → Trees
whole t = Tree 0 t.inside Nothing

tree_forms : (b : List InstrSeq) (t : IsTree b 0) → Forms b (whole t) (0 ∷ [])
tree_forms b t = stand_forms b (whole t) [] (0 ∷ []) t.stands

-- the sequences of a tree are there
pub ids_there : (b : List InstrSeq) (t : IsTree b 0) → AllByRecursion (λ j. j < length b) (tree_ids t)
ids_there b t = forms_there b (whole t) (0 ∷ []) (tree_forms b t)

-- one instruction's sequences are pushed
pub held_more : (front new back : List ℕ) (is : List (Instr × InstrLocId)) (n : ℕ) (x : Instr × InstrLocId) → n < length is → x ≡ get_or is n x → new ≡ front ++ children x.0
    → front ++ children_in (drop n is) ≡ back → new ++ children_in (drop (n + 1) is) ≡ back
held_more front new back is n x lt here push before =
    let rest = children_in (drop (n + 1) is) in
    ap (λ (l : List ℕ). l ++ rest) push
    ∙ append_assoc front (children x.0) rest
    ∙ ap (λ (js : List (Instr × InstrLocId)). front ++ children_in js) (sym (drop_more is n x lt ∙ ap (λ (y : Instr × InstrLocId). y ∷ drop (n + 1) is) (sym here)))
    ∙ before

-- ---- there are no more of them than sequences

absent : (ks : List ℕ) (j : ℕ) → (Has ks j → ⊥) → count j ks ≡ 0
absent [] j not = refl
absent (k ∷ ks) j not = go (k == j) refl (absent ks j (λ h. not (inr h)))
  where
    go : (c : Bool) → (k == j) ≡ c → count j ks ≡ 0 → count j (k ∷ ks) ≡ 0
    go true e none = absurd (not (inl (eqb-true k j e)))
    go false e none = let other : once_if (k == j) ≡ 0 = ap once_if e in omega (arith, other, none)

at_most_once : (ks : List ℕ) (j : ℕ) → AreDistinct ks → count j ks ≤ 1
at_most_once [] j h = omega arith
at_most_once (k ∷ ks) j h = go (k == j) refl (at_most_once ks j h.1)
  where
    go : (c : Bool) → (k == j) ≡ c → count j ks ≤ 1 → count j (k ∷ ks) ≤ 1
    go true e le = let one : once_if (k == j) ≡ 1 = ap once_if e in let none = absent ks j (λ has. h.0 (subst (Has ks) (sym (eqb-true k j e)) has)) in omega (arith, one, none)
    go false e le = let other : once_if (k == j) ≡ 0 = ap once_if e in omega (arith, other, le)

-- how often numbers below n stand in a list
abbrev total : ℕ → List ℕ → ℕ
total zero ks = 0
total (suc n) ks = total n ks + count n ks

total_few : (n : ℕ) (ks : List ℕ) → AreDistinct ks → total n ks ≤ n
total_few zero ks h = omega arith
total_few (suc n) ks h = let a = total_few n ks h in let b = at_most_once ks n h in omega (arith, a, b)

total_none : (n : ℕ) → total n [] ≡ 0
total_none zero = refl
total_none (suc n) = let a = total_none n in omega (arith, a)

total_past : (n k : ℕ) (ks : List ℕ) → n ≤ k → total n (k ∷ ks) ≡ total n ks
total_past zero k ks le = refl
total_past (suc n) k ks le =
    let a = total_past n k ks (omega (arith, le)) in
    let other : once_if (k == n) ≡ 0 = ap once_if (ne_eqb k n (λ e. absurd (omega (arith, le, e)))) in
    omega (arith, a, other)

total_more : (n k : ℕ) (ks : List ℕ) → k < n → total n (k ∷ ks) ≡ suc (total n ks)
total_more zero k ks lt = absurd (omega (arith, lt))
total_more (suc n) k ks lt = go (cases_lt k n) (total_more n k ks)
  where
    go : (k < n) ⊎ (n ≤ k) → (k < n → total n (k ∷ ks) ≡ suc (total n ks)) → total (suc n) (k ∷ ks) ≡ suc (total (suc n) ks)
    go (inl below) on =
        let a = on below in
        let other : once_if (k == n) ≡ 0 = ap once_if (ne_eqb k n (λ e. absurd (omega (arith, below, e)))) in
        omega (arith, a, other)
    go (inr past) on =
        let a = total_past n k ks past in
        let one : once_if (k == n) ≡ 1 = ap once_if (eq-eqb k n (omega (arith, past, lt))) in
        omega (arith, a, one)

total_all : (n : ℕ) (ks : List ℕ) → AllByRecursion (λ k. k < n) ks → total n ks ≡ length ks
total_all n [] h = total_none n
total_all n (k ∷ ks) h = total_more n k ks h.0 ∙ ap suc (total_all n ks h.1)

few : (b : List InstrSeq) (t : IsTree b 0) → length (tree_ids t) ≤ length b
few b t = let a = total_all (length b) (tree_ids t) (ids_there b t) in let le = total_few (length b) (tree_ids t) t.once in omega (arith, a, le)

-- ---- while they are gone through

-- these are done, and these are to come, the last first: with what they hold they are the rest of the trees
pub record Goes (b : List InstrSeq) (x : Trees) (done left : List ℕ) : Type 0 where
  pub rest : Trees
  pub forms : Forms b rest (reverse left)
  pub all : done ++ ids rest ≡ ids x

-- so it is of all trees that the first sequence is with what it holds
abbrev pub GoesOn : List InstrSeq → List ℕ → List ℕ → Type 0
GoesOn b done left = (x : Trees) → Forms b x (0 ∷ []) → Goes b x done left

pub record Taken (b : List InstrSeq) (x : Trees) (done front : List ℕ) (k : ℕ) : Type 0 where
  pub seq : InstrSeq
  pub found : slice_get b k ≡ Some seq
  pub next : Goes b x (done ++ k ∷ []) (front ++ reverse (children_in seq.instrs.items))
  pub less : length done < length (ids x)

take_next : (b : List InstrSeq) (x : Trees) (done left front : List ℕ) (k : ℕ) → left ≡ front ++ k ∷ [] → Goes b x done left → Taken b x done front k
take_next b x done left front k is g = go g.rest (subst (Forms b g.rest) (ap reverse is ∙ reverse-append front (k ∷ [])) g.forms) g.all
  where
    go : (y : Trees) → Forms b y (k ∷ reverse front) → done ++ ids y ≡ ids x → Taken b x done front k
    go Nothing h all = absurd h
    go (Tree id inside beside) (same, s, found, held, next) all =
        let cs = children_in s.instrs.items in
        let turned : reverse (front ++ reverse cs) ≡ cs ++ reverse front = reverse-append front (reverse cs) ∙ ap (λ (l : List ℕ). l ++ reverse front) (reverse-reverse cs) in
        let long = length-append done (id ∷ (ids inside ++ ids beside)) in
        let many = ap length all in
        record {
          seq = s;
          found = found;
          next = record {
            rest = join inside beside;
            forms = subst (Forms b (join inside beside)) (sym turned) (forms_join b inside beside cs (reverse front) held next);
            all = append_assoc done (k ∷ []) (ids (join inside beside)) ∙ ap (λ (l : List ℕ). done ++ k ∷ l) (ids_join inside beside) ∙ ap (λ (n : ℕ). done ++ n ∷ (ids inside ++ ids beside)) (sym same) ∙ all;
          };
          less = omega (arith, long, many);
        }

-- where it goes on there is a next sequence, and they are fewer than all
pub record Follows (b : List InstrSeq) (done front : List ℕ) (k : ℕ) : Type 0 where
  pub seq : InstrSeq
  pub found : slice_get b k ≡ Some seq
  pub next : GoesOn b (done ++ k ∷ []) (front ++ reverse (children_in seq.instrs.items))
  pub less : length done < length b

same_seq : (x y : InstrSeq) → ◌≡◌ {A = Option InstrSeq} (Some x) (Some y) → x ≡ y
same_seq x y e = cc

pub follow : (b : List InstrSeq) (t : IsTree b 0) (done left front : List ℕ) (k : ℕ) → left ≡ front ++ k ∷ [] → GoesOn b done left → Follows b done front k
follow b t done left front k is goes =
    let first = take_next b (whole t) done left front k is (goes (whole t) (tree_forms b t)) in
    let le = few b t in
    let lt = first.less in
    record {
      seq = first.seq;
      found = first.found;
      next = λ x h.
          let own = take_next b x done left front k is (goes x h) in
          subst (λ (s : InstrSeq). Goes b x (done ++ k ∷ []) (front ++ reverse (children_in s.instrs.items))) (same_seq own.seq first.seq (sym own.found ∙ first.found)) own.next;
      less = omega (arith, le, lt);
    }

pub starts : (b : List InstrSeq) → GoesOn b [] (0 ∷ [])
starts b x h = record { rest = x; forms = h; all = refl }

-- where none is left, all are done
pub all_done : (b : List InstrSeq) (done left : List ℕ) → left ≡ [] → GoesOn b done left → (t : IsTree b 0) → done ≡ tree_ids t
all_done b done left none goes t = go g.rest (subst (λ (l : List ℕ). Forms b g.rest (reverse l)) none g.forms) g.all
  where
    g : Goes b (whole t) done left
    g = goes (whole t) (tree_forms b t)

    no_more : (l : List ℕ) → l ++ [] ≡ l
    no_more [] = refl
    no_more (x ∷ l) = ap (λ m. x ∷ m) (no_more l)

    go : (y : Trees) → Forms b y [] → done ++ ids y ≡ tree_ids t → done ≡ tree_ids t
    go Nothing h all = sym (no_more done) ∙ all
    go (Tree id inside beside) h all = absurd h

-- ---- what is told as a handler is a sequence of the tree

told_join : (js : List ℕ) (told : ℕ → Option Handler) (xs ys : List Slot) → AreTold js told xs → AreTold js told ys → AreTold js told (xs ++ ys)
told_join js told [] ys h k = k
told_join js told (x ∷ xs) ys h k = (h.0, h.1, told_join js told xs ys h.2 k)

slot_there : (js : List ℕ) (told : ℕ → Option Handler) (xs : List Slot) (j : ℕ) (h : Handler) → AreTold js told xs → handler_in xs j ≡ Some h → Has js j
slot_there js told [] j h are e = absurd cc
slot_there js told (y ∷ xs) j h are e = go (y.seq == j) refl e (slot_there js told xs j h are.2)
  where
    go : (c : Bool) → (y.seq == j) ≡ c → (if c then y.handles else handler_in xs j) ≡ Some h → (handler_in xs j ≡ Some h → Has js j) → Has js j
    go true is e on = subst (Has js) (eqb-true y.seq j is) are.0
    go false is e on = on e

pub told_there : (tags : ℕ → Option ℕ) (b : List InstrSeq) (t : IsTree b 0) (j : ℕ) (h : Handler) → told_by tags b (tree_ids t) j ≡ Some h → Has (tree_ids t) j
told_there tags b t j h e = slot_there js told (all_slots tags c js) j h (all_told js (λ k has. has)) e
  where
    js : List ℕ
    js = tree_ids t

    c : List Seq
    c = map seq_of b

    told : ℕ → Option Handler
    told = told_by tags b js

    all_told : (ks : List ℕ) → ((k : ℕ) → Has ks k → Has js k) → AreTold js told (all_slots tags c ks)
    all_told [] h = tt
    all_told (k ∷ ks) h =
        told_join js told (seq_slots tags c (slice_get c k)) (all_slots tags c ks) ((trees_tell tags b t).held k (h k (inl refl))) (all_told ks (λ n has. h n (inr has)))

-- Lemmas: what a walk gathers is by sequence the handler that it is.
use Rattle.std.proofs.Common.{◌≡◌, ◌∙◌, ℕ, zero, suc, ◌+◌, ◌<◌, ◌≤◌, Bool, true, false, List, [], ◌∷◌, ◌++◌, length, map, drop, refl, sym, ap, subst, arith, eqb-true, eq-eqb}
use Rattle.std.proofs.lemmas.List.{drop_more}
use Rattle.std.specs.Prelude.{◌==◌, Option, Some, None, replicate, slice_get, slice_index_or, slice_set, if◌then◌else◌}
use Rattle.std.specs.List.{FoldsTo}
use Rattle.std.specs.Option.{option_and_then}
use Rattle.walrus_handler_laws.specs.walrus_tree.Once.{TreesAreWalkedOnce, begun}
use Rattle.walrus_handler_laws.specs.walrus_tree.Trees.{IsTree}
use Rattle.walrus_handler_laws.specs.walrus_tree.walrus_builder.Built.{Seq, seq_of}
use Rattle.walrus_handler_laws.specs.walrus_tree.walrus_walks.Events.{Event, StartOf}
use Rattle.walrus_handler_laws.specs.walrus_tree.walrus_walks.Walk.{walk}
use Rattle.walrus_handler_laws.specs.walrus_tree.walrus_walks.walrus_instr.declared.instr.Instr.{Instr}
use Rattle.walrus_handler_laws.specs.walrus_tree.walrus_walks.walrus_instr.declared.seq.InstrLocId.{InstrLocId}
use Rattle.walrus_handler_laws.specs.walrus_tree.walrus_walks.walrus_instr.declared.seq.InstrSeq.{InstrSeq}
use Rattle.walrus_handler_laws.specs.declared.handler.Handler.{Handler}
use Rattle.walrus_handlers.specs.Gathering.{AreHandlers, listed, put, put_all, put_event}
use Rattle.walrus_handler_laws.specs.Handlers.{Slot, all_slots, handler_in, seq_slots, slots, slots_in, tree_ids}
use Rattle.walrus_handler_laws.proofs.Counting.{count, held_once, once_if, seqs_of}

put_append : (xs ys : List Slot) (told : List (Option Handler)) → put_all (xs ++ ys) told ≡ put_all ys (put_all xs told)
put_append [] ys told = refl
put_append (x ∷ xs) ys told = put_append xs ys (put x.seq x.handles told)

module _ (tags : ℕ → Option ℕ) (b : List Seq) where
  -- one instruction more
  pub put_next : (is : List (Instr × InstrLocId)) (i : ℕ) (x : Instr × InstrLocId) (told now : List (Option Handler)) → i < length is → x ≡ slice_index_or is i x → now ≡ put_all (slots tags b x.0) told
      → put_all (slots_in tags b (drop (i + 1) is)) now ≡ put_all (slots_in tags b (drop i is)) told
  put_next is i x told now lt here e =
      let rest = slots_in tags b (drop (i + 1) is) in
      let next : drop i is ≡ x ∷ drop (i + 1) is = drop_more is i x lt ∙ ap (λ (y : Instr × InstrLocId). y ∷ drop (i + 1) is) (sym here) in
      ap (put_all rest) e ∙ sym (put_append (slots tags b x.0) rest told) ∙ ap (λ (l : List (Instr × InstrLocId)). put_all (slots_in tags b l) told) (sym next)

  -- ---- walks

  abbrev pub put_events : List Event → List (Option Handler) → List (Option Handler)
  put_events [] told = told
  put_events (e ∷ es) told = put_events es (put_event tags b e told)

  abbrev pub begun_slots : List InstrSeq → List Slot
  begun_slots [] = []
  begun_slots (s ∷ ss) = slots_in tags b s.instrs.items ++ begun_slots ss

  pub events_put : (es : List Event) (told : List (Option Handler)) → put_events es told ≡ put_all (begun_slots (begun es)) told
  events_put [] told = refl
  events_put (StartOf s ∷ es) told =
      events_put es (put_all (slots_in tags b s.instrs.items) told) ∙ sym (put_append (slots_in tags b s.instrs.items) (begun_slots (begun es)) told)
  events_put (_ ∷ es) told = events_put es told

  found_slots : (c : List InstrSeq) (k : ℕ) (s : InstrSeq) → slice_get c k ≡ Some s → seq_slots tags b (slice_get (map seq_of c) k) ≡ slots_in tags b s.instrs.items
  found_slots [] k s e = absurd cc
  found_slots (x ∷ c) zero s e = let same : x ≡ s = cc in ap (λ (y : InstrSeq). slots_in tags b y.instrs.items) same
  found_slots (x ∷ c) (suc k) s e = found_slots c k s e

head_is : (s : InstrSeq) (ss : List InstrSeq) (o : Option InstrSeq) (os : List (Option InstrSeq)) → ◌≡◌ {A = List (Option InstrSeq)} (Some s ∷ map Some ss) (o ∷ os) → (o ≡ Some s) × (map Some ss ≡ os)
head_is s ss o os e = (cc, cc)

-- what begins are the sequences of these ids
pub begun_all : (tags : ℕ → Option ℕ) (b : List InstrSeq) (ss : List InstrSeq) (js : List ℕ) → ◌≡◌ {A = List (Option InstrSeq)} (map Some ss) (map (slice_get b) js)
    → begun_slots tags (map seq_of b) ss ≡ all_slots tags (map seq_of b) js
begun_all tags b [] [] e = refl
begun_all tags b [] (j ∷ js) e = absurd cc
begun_all tags b (s ∷ ss) [] e = absurd cc
begun_all tags b (s ∷ ss) (j ∷ js) e =
    let h = head_is s ss (slice_get b j) (map (slice_get b) js) e in
    ap (λ (l : List Slot). slots_in tags (map seq_of b) s.instrs.items ++ l) (begun_all tags b ss js h.1)
    ∙ ap (λ (l : List Slot). l ++ all_slots tags (map seq_of b) js) (sym (found_slots tags (map seq_of b) b j s h.0))

-- ---- by sequence

set_here : {X : Type 0} (xs : List X) (k : ℕ) (y z : X) → slice_get xs k ≡ Some z → slice_get (slice_set xs k y) k ≡ Some y
set_here [] k y z e = absurd cc
set_here (x ∷ xs) zero y z e = refl
set_here (x ∷ xs) (suc k) y z e = set_here xs k y z e

set_other : {X : Type 0} (xs : List X) (k j : ℕ) (y : X) → (k ≡ j → ⊥) → slice_get (slice_set xs k y) j ≡ slice_get xs j
set_other [] k j y ne = refl
set_other (x ∷ xs) zero zero y ne = absurd (ne refl)
set_other (x ∷ xs) zero (suc j) y ne = refl
set_other (x ∷ xs) (suc k) zero y ne = refl
set_other (x ∷ xs) (suc k) (suc j) y ne = set_other xs k j y (λ e. ne (ap suc e))

put_other : (k : ℕ) (h : Option Handler) (told : List (Option Handler)) (j : ℕ) → (k ≡ j → ⊥) → slice_get (put k h told) j ≡ slice_get told j
put_other k None told j ne = refl
put_other k (Some h) told j ne = set_other told k j (Some h) ne

put_here : (k : ℕ) (h : Option Handler) (told : List (Option Handler)) → slice_get told k ≡ Some None → slice_get (put k h told) k ≡ Some h
put_here k None told e = e
put_here k (Some h) told e = set_here told k (Some h) None e

apart : (k j : ℕ) → once_if (k == j) ≡ 0 → k ≡ j → ⊥
apart k j none e = let one : once_if (k == j) ≡ 1 = ap once_if (eq-eqb k j e) in omega (arith, none, one)

put_absent : (xs : List Slot) (told : List (Option Handler)) (j : ℕ) → count j (seqs_of xs) ≡ 0 → slice_get (put_all xs told) j ≡ slice_get told j
put_absent [] told j none = refl
put_absent (x ∷ xs) told j none = put_absent xs (put x.seq x.handles told) j (omega (arith, none)) ∙ put_other x.seq x.handles told j (apart x.seq j (omega (arith, none)))

pub put_found : (xs : List Slot) (told : List (Option Handler)) (j : ℕ) → count j (seqs_of xs) ≤ 1 → slice_get told j ≡ Some None → slice_get (put_all xs told) j ≡ Some (handler_in xs j)
put_found [] told j le e = e
put_found (x ∷ xs) told j le e = go (x.seq == j) refl (put_found xs (put x.seq x.handles told) j)
  where
    go : (c : Bool) → (x.seq == j) ≡ c → (count j (seqs_of xs) ≤ 1 → slice_get (put x.seq x.handles told) j ≡ Some None → slice_get (put_all xs (put x.seq x.handles told)) j ≡ Some (handler_in xs j))
        → slice_get (put_all (x ∷ xs) told) j ≡ Some (handler_in (x ∷ xs) j)
    go true is rest =
        let one : once_if (x.seq == j) ≡ 1 = ap once_if is in
        let same : x.seq ≡ j = eqb-true x.seq j is in
        put_absent xs (put x.seq x.handles told) j (omega (arith, le, one))
        ∙ subst (λ (n : ℕ). slice_get (put n x.handles told) j ≡ Some x.handles) (sym same) (put_here j x.handles told e)
        ∙ ap (λ (c : Bool). let o : Option Handler = if c then x.handles else handler_in xs j in Some o) (sym is)
    go false is rest =
        let none : once_if (x.seq == j) ≡ 0 = ap once_if is in
        rest (omega (arith, le, none)) (put_other x.seq x.handles told j (apart x.seq j none) ∙ e)
        ∙ ap (λ (c : Bool). let o : Option Handler = if c then x.handles else handler_in xs j in Some o) (sym is)

pub put_length : (xs : List Slot) (told : List (Option Handler)) → length (put_all xs told) ≡ length told
put_length [] told = refl
put_length (x ∷ xs) told = put_length xs (put x.seq x.handles told) ∙ one x.seq x.handles told
  where
    set_length : (told : List (Option Handler)) (k : ℕ) (y : Option Handler) → length (slice_set told k y) ≡ length told
    set_length [] k y = refl
    set_length (z ∷ told) zero y = refl
    set_length (z ∷ told) (suc k) y = ap suc (set_length told k y)

    one : (k : ℕ) (h : Option Handler) (told : List (Option Handler)) → length (put k h told) ≡ length told
    one k None told = refl
    one k (Some h) told = set_length told k (Some h)

pub untold_at : (n j : ℕ) → j < n → slice_get (replicate n (let o : Option Handler = None in o)) j ≡ Some None
untold_at zero j lt = absurd (omega (arith, lt))
untold_at (suc n) zero lt = refl
untold_at (suc n) (suc j) lt = untold_at n j (omega (arith, lt))

-- ---- a walk of a tree

pub folds_told : {P : Type 0} (R : P → Event → P → Type 0) (tags : ℕ → Option ℕ) (b : List Seq) (told : P → List (Option Handler)) (same : P → Type 0)
    → ((p : P) (e : Event) (q : P) → R p e q → same p → same q × (told q ≡ put_event tags b e (told p)))
    → (es : List Event) (p q : P) → FoldsTo R p es q → same p → told q ≡ put_events tags b es (told p)
folds_told R tags b told same step [] p q is ok = ap told (sym is)
folds_told R tags b told same step (e ∷ es) p q (j, r, rest) ok =
    let s = step p e j r ok in
    folds_told R tags b told same step es j q rest s.0 ∙ ap (put_events tags b es) s.1

pub untold_length : (n : ℕ) → length (replicate n (let o : Option Handler = None in o)) ≡ n
untold_length zero = refl
untold_length (suc n) = ap suc (untold_length n)

pub gathered : (tags : ℕ → Option ℕ) (b : List InstrSeq) (t : IsTree b 0) → TreesAreWalkedOnce → (told hs : List (Option Handler)) → told ≡ replicate (length b) None
    → hs ≡ put_events tags (map seq_of b) (walk b 0) told → AreHandlers tags b (tree_ids t) hs
gathered tags b t once told hs none e = record {
  short = let e : length hs ≡ length b = ap length is ∙ put_length xs told ∙ ap length none ∙ untold_length (length b) in omega (arith, e);
  told = λ j lt. ap (λ (l : List (Option Handler)). listed l j) is
      ∙ ap (option_and_then (λ (h : Option Handler). h)) (put_found xs told j (held_once tags b t j) (ap (λ (l : List (Option Handler)). slice_get l j) none ∙ untold_at (length b) j lt));
}
  where
    xs : List Slot
    xs = all_slots tags (map seq_of b) (tree_ids t)

    is : hs ≡ put_all xs told
    is = e ∙ events_put tags (map seq_of b) (walk b 0) told ∙ ap (λ (l : List Slot). put_all l told) (begun_all tags b (begun (walk b 0)) (tree_ids t) (once b 0 t))

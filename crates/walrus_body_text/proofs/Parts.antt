-- What is left to enter, part by part: one step keeps that it is a part of a tree.
use Rattle.std.proofs.Common.{ℕ, ◌+◌, ◌<◌, ◌≡◌, List, [], ◌∷◌, ◌++◌, drop, length, Option, Some, None, refl, sym, ap, subst, ◌∙◌, append-nil}
use Rattle.std.specs.Prelude.{slice_get, slice_set}
use Rattle.std.proofs.lemmas.List.{append_assoc}
use Rattle.std.proofs.lemmas.Option.{same_Some}
use Rattle.walrus_tree.specs.walrus_walks.walrus_instr.declared.instr.Instr.{Instr}
use Rattle.walrus_tree.specs.walrus_walks.walrus_instr.declared.instr.Instr.TheVariants.{Block, Loop, IfElse, Try, TryTable}
use Rattle.walrus_tree.specs.walrus_walks.walrus_instr.declared.instr.LegacyCatch.{LegacyCatch}
use Rattle.walrus_tree.specs.walrus_walks.walrus_instr.declared.instr.LegacyCatch.TheVariants as Legacy
use Rattle.walrus_tree.specs.walrus_walks.walrus_instr.declared.seq.InstrLocId.{InstrLocId}
use Rattle.walrus_tree.specs.walrus_walks.walrus_instr.declared.seq.InstrSeq.{InstrSeq}
use Rattle.walrus_tree.specs.walrus_walks.Tree.{children, children_in, handlers}
use Rattle.walrus_tree.specs.declared.marks.Mark.{Mark}
use Rattle.walrus_tree.specs.declared.marks.Mark.TheVariants.{Fresh, Open, Done}
use Rattle.walrus_tree.specs.Testing.{mark_at, AllFresh}
use Rattle.walrus_tree.specs.Trees.{AreDistinct, AreWithin, IsWithin, Trees, Nothing, Tree, ids, Stand, IsTree}
use Rattle.walrus_tree.proofs.Marking.{fresh_in, fresh_left, fresh_out, left_fresh}
use Rattle.walrus_body_text.specs.declared.todo.Closer.{Closer}
use Rattle.walrus_body_text.specs.declared.todo.Closer.TheVariants as closers
use Rattle.walrus_body_text.specs.declared.todo.Place.{Place}
use Rattle.walrus_body_text.specs.declared.todo.Todo.{Todo}
use Rattle.walrus_body_text.specs.declared.todo.Todo.TheVariants.{Enter, Inside}
use Rattle.walrus_body_text.specs.Doing.{closer_before, entering, handling, opened, place_of}
use Rattle.walrus_body_text.specs.Walking.{advanced}
use Rattle.walrus_body_text.specs.Tested.{IsPart, Stands, StandsFrom}
use Rattle.walrus_body_text.proofs.Lefts.{handling_opens, opened_append}

-- ---- lists of what is left

record Splits (b : List InstrSeq) (around : List ℕ) (xs ys : List Todo) (ks : List ℕ) : Type 0 where
  pub x : List ℕ
  pub y : List ℕ
  pub is : ks ≡ y ++ x
  pub front : Stands b around xs x
  pub back : Stands b (opened around xs) ys y

stands_split : (b : List InstrSeq) (around : List ℕ) (xs ys : List Todo) (ks : List ℕ) → Stands b around (xs ++ ys) ks → Splits b around xs ys ks
stands_split b around [] ys ks h = record { x = []; y = ks; is = sym (append-nil ks); front = refl; back = h }
stands_split b around (Enter k c ∷ xs) ys ks h =
    let r = stands_split b around xs ys h.0 h.3 in
    let own = ids (Tree k h.1 Nothing) in
    record { x = r.x ++ own; y = r.y; is = h.2 ∙ ap (λ (m : List ℕ). m ++ own) r.is ∙ append_assoc r.y r.x own; front = (r.x, h.1, refl, r.front, h.4); back = r.back }
stands_split b around (Inside at ∷ xs) ys ks h =
    let r = stands_split b (at.seq ∷ around) xs ys h.0 h.3 in
    let own = ids h.1 in
    record { x = r.x ++ own; y = r.y; is = h.2 ∙ ap (λ (m : List ℕ). m ++ own) r.is ∙ append_assoc r.y r.x own; front = (r.x, h.1, refl, r.front, h.4); back = r.back }

stands_join : (b : List InstrSeq) (around : List ℕ) (xs ys : List Todo) (x y : List ℕ) → Stands b around xs x → Stands b (opened around xs) ys y → Stands b around (xs ++ ys) (y ++ x)
stands_join b around [] ys x y f g =
    let F : List ℕ → Type 0 = Stands b around ys in
    subst F (sym (ap (λ (z : List ℕ). y ++ z) f ∙ append-nil y)) g
stands_join b around (Enter k c ∷ xs) ys x y f g =
    let own = ids (Tree k f.1 Nothing) in
    (y ++ f.0, f.1, ap (λ (z : List ℕ). y ++ z) f.2 ∙ sym (append_assoc y f.0 own), stands_join b around xs ys f.0 y f.3 g, f.4)
stands_join b around (Inside at ∷ xs) ys x y f g =
    let own = ids f.1 in
    (y ++ f.0, f.1, ap (λ (z : List ℕ). y ++ z) f.2 ∙ sym (append_assoc y f.0 own), stands_join b (at.seq ∷ around) xs ys f.0 y f.3 g, f.4)

-- ---- trees beside each other

abbrev beside : Trees → Trees → Trees
beside Nothing us = us
beside (Tree k inside ts) us = Tree k inside (beside ts us)

ids_beside : (ts us : Trees) → ids (beside ts us) ≡ ids ts ++ ids us
ids_beside Nothing us = refl
ids_beside (Tree k inside ts) us =
    ap (λ (z : List ℕ). k ∷ (ids inside ++ z)) (ids_beside ts us) ∙ ap (λ (z : List ℕ). k ∷ z) (sym (append_assoc (ids inside) (ids ts) (ids us)))

stand_beside : (b : List InstrSeq) (around xs ys : List ℕ) (ts us : Trees) → Stand b ts around xs → Stand b us around ys → Stand b (beside ts us) around (xs ++ ys)
stand_beside b around [] ys Nothing us h g = g
stand_beside b around [] ys (Tree k inside ts) us h g = absurd h
stand_beside b around (x ∷ xs) ys Nothing us h g = absurd h
stand_beside b around (x ∷ xs) ys (Tree k inside ts) us h g = (h.0, h.1, h.2, h.3, h.4, stand_beside b around xs ys ts us h.5 g)

record Sides (b : List InstrSeq) (around xs ys : List ℕ) (ts : Trees) : Type 0 where
  pub one : Trees
  pub two : Trees
  pub is : ids ts ≡ ids one ++ ids two
  pub first : Stand b one around xs
  pub second : Stand b two around ys

stand_sides : (b : List InstrSeq) (around xs ys : List ℕ) (ts : Trees) → Stand b ts around (xs ++ ys) → Sides b around xs ys ts
stand_sides b around [] ys ts h = record { one = Nothing; two = ts; is = refl; first = tt; second = h }
stand_sides b around (x ∷ xs) ys Nothing h = absurd h
stand_sides b around (x ∷ xs) ys (Tree k inside ts) h =
    let r = stand_sides b around xs ys ts h.5 in
    record {
      one = Tree k inside r.one;
      two = r.two;
      is = ap (λ (z : List ℕ). k ∷ (ids inside ++ z)) r.is ∙ ap (λ (z : List ℕ). k ∷ z) (sym (append_assoc (ids inside) (ids r.one) (ids r.two)));
      first = (h.0, h.1, h.2, h.3, h.4, r.first);
      second = r.second;
    }

-- ---- what an instruction holds

record Holds (b : List InstrSeq) (around cs ks : List ℕ) : Type 0 where
  pub trees : Trees
  pub is : ks ≡ ids trees
  pub stand : Stand b trees around cs

module _ (b : List InstrSeq) (around : List ℕ) where
  one_in : (k : ℕ) (c : Closer) (ks : List ℕ) → Stands b around (Enter k c ∷ []) ks → Holds b around (k ∷ []) ks
  one_in k c ks h =
      let own = ids (Tree k h.1 Nothing) in
      record { trees = Tree k h.1 Nothing; is = h.2 ∙ ap (λ (m : List ℕ). m ++ own) h.3; stand = h.4 }

  one_out : (k : ℕ) (c : Closer) (ts : Trees) → Stand b ts around (k ∷ []) → Stands b around (Enter k c ∷ []) (ids ts)
  one_out k c Nothing h = absurd h
  one_out k c (Tree j inside Nothing) h = ([], inside, ap (λ (z : ℕ). z ∷ (ids inside ++ [])) h.0, refl, (refl, h.1, h.2, h.3, h.4, tt))
  one_out k c (Tree j inside (Tree i deeper more)) h = absurd h.5

  module _ (zs : List Todo) (cs : List ℕ) (opens : opened around zs ≡ around) (k : ℕ) (c : Closer) where
    more_in : ((ks : List ℕ) → Stands b around zs ks → Holds b around cs ks) → (ks : List ℕ) → Stands b around (zs ++ Enter k c ∷ []) ks → Holds b around (k ∷ cs) ks
    more_in rest ks h =
        let r = stands_split b around zs (Enter k c ∷ []) ks h in
        let F : List ℕ → Type 0 = λ z. Stands b z (Enter k c ∷ []) r.y in
        let one = one_in k c r.y (subst F opens r.back) in
        let two = rest r.x r.front in
        record {
          trees = beside one.trees two.trees;
          is = r.is ∙ ap (λ (z : List ℕ). z ++ r.x) one.is ∙ ap (λ (z : List ℕ). ids one.trees ++ z) two.is ∙ sym (ids_beside one.trees two.trees);
          stand = stand_beside b around (k ∷ []) cs one.trees two.trees one.stand two.stand;
        }

    more_out : ((ts : Trees) → Stand b ts around cs → Stands b around zs (ids ts)) → (ts : Trees) → Stand b ts around (k ∷ cs) → Stands b around (zs ++ Enter k c ∷ []) (ids ts)
    more_out rest ts h =
        let s = stand_sides b around (k ∷ []) cs ts h in
        let F : List ℕ → Type 0 = λ z. Stands b z (Enter k c ∷ []) (ids s.one) in
        let G : List ℕ → Type 0 = Stands b around (zs ++ Enter k c ∷ []) in
        subst G (sym s.is) (stands_join b around zs (Enter k c ∷ []) (ids s.two) (ids s.one) (rest s.two s.second) (subst F (sym opens) (one_out k c s.one s.first)))

  none_in : (ks : List ℕ) → Stands b around [] ks → Holds b around [] ks
  none_in ks h = record { trees = Nothing; is = h; stand = tt }

  none_out : (ts : Trees) → Stand b ts around [] → Stands b around [] (ids ts)
  none_out Nothing h = refl
  none_out (Tree j inside ts) h = absurd h

  handling_in : (parts : List LegacyCatch) (ks : List ℕ) → Stands b around (handling parts) ks → Holds b around (handlers parts) ks
  handling_in [] ks h = none_in ks h
  handling_in (Legacy.Catch tag j ∷ parts) ks h = more_in (handling parts) (handlers parts) (handling_opens around parts) j (closer_before parts) (handling_in parts) ks h
  handling_in (Legacy.CatchAll j ∷ parts) ks h = more_in (handling parts) (handlers parts) (handling_opens around parts) j (closer_before parts) (handling_in parts) ks h
  handling_in (Legacy.Delegate depth ∷ parts) ks h = handling_in parts ks h

  handling_out : (parts : List LegacyCatch) (ts : Trees) → Stand b ts around (handlers parts) → Stands b around (handling parts) (ids ts)
  handling_out [] ts h = none_out ts h
  handling_out (Legacy.Catch tag j ∷ parts) ts h = more_out (handling parts) (handlers parts) (handling_opens around parts) j (closer_before parts) (handling_out parts) ts h
  handling_out (Legacy.CatchAll j ∷ parts) ts h = more_out (handling parts) (handlers parts) (handling_opens around parts) j (closer_before parts) (handling_out parts) ts h
  handling_out (Legacy.Delegate depth ∷ parts) ts h = handling_out parts ts h

  entering_in : (i : Instr) (ks : List ℕ) → Stands b around (entering i) ks → Holds b around (children i) ks
  entering_in (Block k) ks h = one_in k closers.End ks h
  entering_in (Loop k) ks h = one_in k closers.End ks h
  entering_in (IfElse k other) ks h = more_in (Enter other closers.End ∷ []) (other ∷ []) refl k closers.Else (one_in other closers.End) ks h
  entering_in (Try k catches) ks h = more_in (handling catches.items) (handlers catches.items) (handling_opens around catches.items) k (closer_before catches.items) (handling_in catches.items) ks h
  entering_in (TryTable k catches) ks h = one_in k closers.End ks h
  entering_in _ ks h = none_in ks h

  entering_out : (i : Instr) (ts : Trees) → Stand b ts around (children i) → Stands b around (entering i) (ids ts)
  entering_out (Block k) ts h = one_out k closers.End ts h
  entering_out (Loop k) ts h = one_out k closers.End ts h
  entering_out (IfElse k other) ts h = more_out (Enter other closers.End ∷ []) (other ∷ []) refl k closers.Else (one_out other closers.End) ts h
  entering_out (Try k catches) ts h = more_out (handling catches.items) (handlers catches.items) (handling_opens around catches.items) k (closer_before catches.items) (handling_out catches.items) ts h
  entering_out (TryTable k catches) ts h = one_out k closers.End ts h
  entering_out _ ts h = none_out ts h

-- ---- one step

-- the sequence that is next stands
pub record Entry (b : List InstrSeq) (ts : List Todo) (k : ℕ) (ks : List ℕ) : Type 0 where
  pub later : List ℕ
  pub inside : Trees
  pub is : ks ≡ k ∷ (ids inside ++ later)
  pub front : Stands b [] ts later
  pub stands : Stand b (Tree k inside Nothing) (opened [] ts) (k ∷ [])

entry_of : (b : List InstrSeq) (ts : List Todo) (k : ℕ) (c : Closer) (ks : List ℕ) → Stands b [] (ts ++ Enter k c ∷ []) ks → Entry b ts k ks
entry_of b ts k c ks h =
    let r = stands_split b [] ts (Enter k c ∷ []) ks h in
    let inside = r.back.1 in
    record {
      later = r.x;
      inside = inside;
      is = r.is ∙ ap (λ (z : List ℕ). z ++ r.x) (r.back.2 ∙ ap (λ (m : List ℕ). m ++ ids (Tree k inside Nothing)) r.back.3 ∙ ap (λ (z : List ℕ). k ∷ z) (append-nil (ids inside)));
      front = r.front;
      stands = r.back.4;
    }

-- what is inside the sequence that is next
pub record Rest (b : List InstrSeq) (ts : List Todo) (at : Place) (ks : List ℕ) : Type 0 where
  pub later : List ℕ
  pub inside : Trees
  pub is : ks ≡ ids inside ++ later
  pub front : Stands b [] ts later
  pub stands : StandsFrom b (opened [] ts) at inside

rest_of : (b : List InstrSeq) (ts : List Todo) (at : Place) (ks : List ℕ) → Stands b [] (ts ++ Inside at ∷ []) ks → Rest b ts at ks
rest_of b ts at ks h =
    let r = stands_split b [] ts (Inside at ∷ []) ks h in
    let inside = r.back.1 in
    record {
      later = r.x;
      inside = inside;
      is = r.is ∙ ap (λ (z : List ℕ). z ++ r.x) (r.back.2 ∙ ap (λ (m : List ℕ). m ++ ids inside) r.back.3);
      front = r.front;
      stands = r.back.4;
    }

module _ (b : List InstrSeq) (ms : List Mark) (ts : List Todo) where
  abbrev D : List ℕ → Type 0
  D ks = AreDistinct ks

  abbrev F : List ℕ → Type 0
  F ks = AllFresh ms ks

  -- it is unknown
  pub part_unknown : (k : ℕ) (c : Closer) → slice_get b k ≡ None → IsPart b ms (ts ++ Enter k c ∷ []) → ⊥
  part_unknown k c e h =
      let r = entry_of b ts k c h.ids h.stands in
      none_some r.stands.1 (sym e ∙ r.stands.2)
    where
      none_some : (s : InstrSeq) → ◌≡◌ {A = Option InstrSeq} None (Some s) → ⊥
      none_some s e = cc

  -- what is open is known
  pub part_known : (at : Place) → slice_get b at.seq ≡ None → IsPart b ms (ts ++ Inside at ∷ []) → ⊥
  part_known at e h =
      let r = rest_of b ts at h.ids h.stands in
      none_some r.stands.seq (sym e ∙ r.stands.found)
    where
      none_some : (s : InstrSeq) → ◌≡◌ {A = Option InstrSeq} None (Some s) → ⊥
      none_some s e = cc

  -- it was entered
  pub part_met : (k : ℕ) (c : Closer) → (mark_at ms k ≡ Fresh → ⊥) → IsPart b ms (ts ++ Enter k c ∷ []) → ⊥
  part_met k c n h =
      let r = entry_of b ts k c h.ids h.stands in
      n (subst F r.is h.fresh).0

  -- a sequence is entered
  module _ (k : ℕ) (c : Closer) (l : k < length ms) where
    pub enter_forth : IsPart b ms (ts ++ Enter k c ∷ []) → IsPart b (slice_set ms k Open) (ts ++ Inside (place_of (Enter k c)) ∷ [])
    enter_forth h =
        let r = entry_of b ts k c h.ids h.stands in
        let p = fresh_out ms k l [] (ids r.inside ++ r.later) (subst F r.is h.fresh) (subst D r.is h.distinct) in
        record {
          ids = ids r.inside ++ r.later;
          stands = stands_join b [] ts (Inside (place_of (Enter k c)) ∷ []) r.later (ids r.inside) r.front ([], r.inside, refl, refl, record { seq = r.stands.1; found = r.stands.2; within = r.stands.3; stands = r.stands.4 });
          fresh = p.0;
          distinct = p.1;
        }

    pub enter_back : mark_at ms k ≡ Fresh → IsPart b (slice_set ms k Open) (ts ++ Inside (place_of (Enter k c)) ∷ []) → IsPart b ms (ts ++ Enter k c ∷ [])
    enter_back fresh h =
        let r = rest_of b ts (place_of (Enter k c)) h.ids h.stands in
        let G : List ℕ → Type 0 = AllFresh (slice_set ms k Open) in
        let p = fresh_in ms k l [] (ids r.inside ++ r.later) fresh (subst G r.is h.fresh) (subst D r.is h.distinct) in
        let own = ids (Tree k r.inside Nothing) in
        let e : k ∷ (ids r.inside ++ r.later) ≡ own ++ r.later = ap (λ (z : List ℕ). k ∷ (z ++ r.later)) (sym (append-nil (ids r.inside))) in
        record {
          ids = own ++ r.later;
          stands = stands_join b [] ts (Enter k c ∷ []) r.later own r.front ([], r.inside, refl, refl, (refl, r.stands.seq, r.stands.found, r.stands.within, r.stands.stands, tt));
          fresh = subst F e p.0;
          distinct = subst D e p.1;
        }

  -- an instruction stands there
  module _ (at : Place) (s : InstrSeq) (i : Instr × InstrLocId) (found : slice_get b at.seq ≡ Some s) (here : drop at.next s.instrs.items ≡ i ∷ drop (at.next + 1) s.instrs.items) where
    abbrev env : List ℕ
    env = at.seq ∷ opened [] ts

    same : (t : InstrSeq) → slice_get b at.seq ≡ Some t → t ≡ s
    same t e = same_Some t s (sym e ∙ found)

    within_now : (inside : Trees) → StandsFrom b (opened [] ts) at inside → AreWithin env (i ∷ drop (at.next + 1) s.instrs.items)
    within_now inside f =
        let W : InstrSeq → Type 0 = λ t. AreWithin env (drop at.next t.instrs.items) in
        let V : List (Instr × InstrLocId) → Type 0 = AreWithin env in
        subst V here (subst W (same f.seq f.found) f.within)

    stands_now : (inside : Trees) → StandsFrom b (opened [] ts) at inside → Stand b inside env (children i.0 ++ children_in (drop (at.next + 1) s.instrs.items))
    stands_now inside f =
        let W : InstrSeq → Type 0 = λ t. Stand b inside env (children_in (drop at.next t.instrs.items)) in
        let V : List (Instr × InstrLocId) → Type 0 = λ is. Stand b inside env (children_in is) in
        subst V here (subst W (same f.seq f.found) f.stands)

    -- its labels name what is around
    pub part_within : IsPart b ms (ts ++ Inside at ∷ []) → IsWithin env i.0
    part_within h = let r = rest_of b ts at h.ids h.stands in (within_now r.inside r.stands).0

    opens : opened [] (ts ++ Inside (advanced at) ∷ []) ≡ env
    opens = opened_append [] ts (Inside (advanced at) ∷ [])

    pub instr_forth : IsPart b ms (ts ++ Inside at ∷ []) → IsPart b ms ((ts ++ Inside (advanced at) ∷ []) ++ entering i.0)
    instr_forth h =
        let r = rest_of b ts at h.ids h.stands in
        let parts = stand_sides b env (children i.0) (children_in (drop (at.next + 1) s.instrs.items)) r.inside (stands_now r.inside r.stands) in
        let is : h.ids ≡ ids parts.one ++ (ids parts.two ++ r.later) = r.is ∙ ap (λ (z : List ℕ). z ++ r.later) parts.is ∙ append_assoc (ids parts.one) (ids parts.two) r.later in
        let S : List ℕ → Type 0 = λ z. Stands b z (entering i.0) (ids parts.one) in
        record {
          ids = ids parts.one ++ (ids parts.two ++ r.later);
          stands =
              stands_join b [] (ts ++ Inside (advanced at) ∷ []) (entering i.0) (ids parts.two ++ r.later) (ids parts.one)
              (stands_join b [] ts (Inside (advanced at) ∷ []) r.later (ids parts.two) r.front ([], parts.two, refl, refl, record { seq = s; found = found; within = (within_now r.inside r.stands).1; stands = parts.second }))
              (subst S (sym opens) (entering_out b env i.0 parts.one parts.first));
          fresh = subst F is h.fresh;
          distinct = subst D is h.distinct;
        }

    pub instr_back : IsWithin env i.0 → IsPart b ms ((ts ++ Inside (advanced at) ∷ []) ++ entering i.0) → IsPart b ms (ts ++ Inside at ∷ [])
    instr_back within h =
        let q = stands_split b [] (ts ++ Inside (advanced at) ∷ []) (entering i.0) h.ids h.stands in
        let r = rest_of b ts (advanced at) q.x q.front in
        let S : List ℕ → Type 0 = λ z. Stands b z (entering i.0) q.y in
        let held = entering_in b env i.0 q.y (subst S opens q.back) in
        let W : InstrSeq → Type 0 = λ t. AreWithin env (drop (at.next + 1) t.instrs.items) in
        let U : InstrSeq → Type 0 = λ t. Stand b r.inside env (children_in (drop (at.next + 1) t.instrs.items)) in
        let V : List (Instr × InstrLocId) → Type 0 = AreWithin env in
        let T : List (Instr × InstrLocId) → Type 0 = λ is. Stand b (beside held.trees r.inside) env (children_in is) in
        let both : ids (beside held.trees r.inside) ++ r.later ≡ ids held.trees ++ (ids r.inside ++ r.later) =
        ap (λ (z : List ℕ). z ++ r.later) (ids_beside held.trees r.inside) ∙ append_assoc (ids held.trees) (ids r.inside) r.later in
        let is : h.ids ≡ ids (beside held.trees r.inside) ++ r.later =
        q.is ∙ ap (λ (z : List ℕ). z ++ q.x) held.is ∙ ap (λ (z : List ℕ). ids held.trees ++ z) r.is ∙ sym both in
        record {
          ids = ids (beside held.trees r.inside) ++ r.later;
          stands = stands_join b [] ts (Inside at ∷ []) r.later (ids (beside held.trees r.inside)) r.front (
            [],
            beside held.trees r.inside,
            refl,
            refl,
            record {
              seq = s;
              found = found;
              within = subst V (sym here) (within, subst W (same r.stands.seq r.stands.found) r.stands.within);
              stands = subst T (sym here) (stand_beside b env (children i.0) (children_in (drop (at.next + 1) s.instrs.items)) held.trees r.inside held.stand (subst U (same r.stands.seq r.stands.found) r.stands.stands));
            },
          );
          fresh = subst F is h.fresh;
          distinct = subst D is h.distinct;
        }

  -- a sequence ends there
  module _ (at : Place) (s : InstrSeq) (found : slice_get b at.seq ≡ Some s) (here : drop at.next s.instrs.items ≡ []) (l : at.seq < length ms) (open_is : mark_at ms at.seq ≡ Open) where
    pub end_forth : IsPart b ms (ts ++ Inside at ∷ []) → IsPart b (slice_set ms at.seq Done) ts
    end_forth h =
        let r = rest_of b ts at h.ids h.stands in
        let W : InstrSeq → Type 0 = λ t. Stand b r.inside (at.seq ∷ opened [] ts) (children_in (drop at.next t.instrs.items)) in
        let V : List (Instr × InstrLocId) → Type 0 = λ is. Stand b r.inside (at.seq ∷ opened [] ts) (children_in is) in
        let none : ids r.inside ≡ [] = none_out b (at.seq ∷ opened [] ts) r.inside (subst V here (subst W (same_Some r.stands.seq s (sym r.stands.found ∙ found)) r.stands.stands)) in
        let is : h.ids ≡ r.later = r.is ∙ ap (λ (z : List ℕ). z ++ r.later) none in
        record { ids = r.later; stands = r.front; fresh = fresh_left ms at.seq l r.later open_is (subst F is h.fresh); distinct = subst D is h.distinct }

    pub end_back : IsPart b (slice_set ms at.seq Done) ts → IsPart b ms (ts ++ Inside at ∷ [])
    end_back h =
        let V : List (Instr × InstrLocId) → Type 0 = AreWithin (at.seq ∷ opened [] ts) in
        let W : List (Instr × InstrLocId) → Type 0 = λ is. Stand b Nothing (at.seq ∷ opened [] ts) (children_in is) in
        record {
          ids = h.ids;
          stands = stands_join b [] ts (Inside at ∷ []) h.ids [] h.stands ([], Nothing, refl, refl, record { seq = s; found = found; within = subst V (sym here) tt; stands = subst W (sym here) tt });
          fresh = left_fresh ms at.seq l h.ids h.fresh;
          distinct = h.distinct;
        }

-- ---- the start

all_fresh : (ms : List Mark) → ((k : ℕ) → mark_at ms k ≡ Fresh) → (ks : List ℕ) → AllFresh ms ks
all_fresh ms h [] = tt
all_fresh ms h (k ∷ ks) = (h k, all_fresh ms h ks)

module _ (b : List InstrSeq) (ms : List Mark) (entry : ℕ) (c : Closer) where
  pub tree_part : ((k : ℕ) → mark_at ms k ≡ Fresh) → IsTree b entry → IsPart b ms (Enter entry c ∷ [])
  tree_part fresh t = record {
    ids = ids (Tree entry t.inside Nothing);
    stands = ([], t.inside, refl, refl, t.stands);
    fresh = all_fresh ms fresh (ids (Tree entry t.inside Nothing));
    distinct = t.once;
  }

  pub part_tree : IsPart b ms (Enter entry c ∷ []) → IsTree b entry
  part_tree h =
      let own = ids (Tree entry h.stands.1 Nothing) in
      let is : h.ids ≡ own = h.stands.2 ∙ ap (λ (m : List ℕ). m ++ own) h.stands.3 in
      let D : List ℕ → Type 0 = AreDistinct in
      record { inside = h.stands.1; stands = h.stands.4; once = subst D is h.distinct }

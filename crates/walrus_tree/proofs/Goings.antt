-- One step of the test: what it still enters is a part of a tree just where that was so before.
use Rattle.std.proofs.Common.{Bool, ℕ, zero, suc, replicate, ◌+◌, ◌-◌, ◌<◌, ◌≤◌, ◌≡◌, ◌↔◌, true, false, List, [], ◌∷◌, ◌++◌, length, get_or, Some, refl, sym, ap, subst, arith, ◌∙◌, append_assoc, length-append, inl, true≢false}
use Rattle.std.specs.Prelude.{slice_get, slice_set}
use Rattle.std.specs.Bool.{OnTrue}
use Rattle.std.proofs.lemmas.List.{append-nil}
use Rattle.std.proofs.lemmas.Option.{slice_get_read, slice_get_within, same_Some}
use Rattle.walrus_builder.specs.walrus_walks.walrus_instr.declared.instr.Instr.{Instr}
use Rattle.walrus_builder.specs.walrus_walks.walrus_instr.declared.seq.InstrLocId.{InstrLocId}
use Rattle.walrus_builder.specs.walrus_walks.walrus_instr.declared.seq.InstrSeq.{InstrSeq}
use Rattle.walrus_builder.specs.walrus_walks.Tree.{children_in}
use Rattle.walrus_tree.specs.declared.marks.Mark.{Mark}
use Rattle.walrus_tree.specs.declared.marks.Mark.TheVariants.{Fresh, Open, Done}
use Rattle.walrus_tree.specs.declared.steps.Step.{Step}
use Rattle.walrus_tree.specs.declared.steps.Step.TheVariants.{Enter, Leave}
use Rattle.walrus_tree.specs.Trees.{Has, AreDistinct, AreWithin, Trees, Nothing, Tree, ids, Stand, IsTree}
use Rattle.walrus_tree.specs.Testing.{mark_at, all_within, entering, opened, Left, AllFresh, Goes, Marked, work}
use Rattle.walrus_tree.proofs.Entering.{opened_append, opened_entering, opened_most, entering_length}
use Rattle.walrus_tree.proofs.Labels.{all_within_right, right_all_within}
use Rattle.walrus_tree.proofs.Marking.{has_middle, fresh_at, fresh_out, fresh_in, fresh_left, left_fresh, marked_enter, marked_leave, mark_known, mark_read, work_enter}
use Rattle.walrus_tree.proofs.Lefts.{left_split, left_join, left_stands, stands_left}

-- what holds of a test that was passed
pub on_true : (passed : Bool) (P : Type 0) → passed ≡ true → OnTrue passed P → P
on_true true P e h = h
on_true false P e h = absurd (true≢false (sym e))

-- the steps enter this sequence last
pub record Entry (b : List InstrSeq) (fs : List Step) (k : ℕ) (ks : List ℕ) : Type 0 where
  pub x : List ℕ
  pub inside : Trees
  pub is : ks ≡ x ++ k ∷ ids inside
  pub front : Left b [] fs x
  pub stands : Stand b (Tree k inside Nothing) (opened [] fs) (k ∷ [])

pub entry_of : (b : List InstrSeq) (fs : List Step) (k : ℕ) (ks : List ℕ) → Left b [] (fs ++ Enter k ∷ []) ks → Entry b fs k ks
entry_of b fs k ks h =
    let r = left_split b [] fs (Enter k ∷ []) ks h in
    let inside = r.back.0 in
    let own : r.y ≡ k ∷ ids inside =
    r.back.2 ∙ ap (λ (m : List ℕ). ids (Tree k inside Nothing) ++ m) r.back.4 ∙ append-nil (ids (Tree k inside Nothing)) ∙ ap (λ (z : List ℕ). k ∷ z) (append-nil (ids inside)) in
    record { x = r.x; inside = inside; is = r.is ∙ ap (λ (z : List ℕ). r.x ++ z) own; front = r.front; stands = r.back.3 }

module _ (b : List InstrSeq) (ms : List Mark) (fs : List Step) (k : ℕ) where
  -- the sequence is unknown
  pub goes_unknown : length b ≤ k → Goes b ms (fs ++ Enter k ∷ []) → ⊥
  goes_unknown l h =
      let e = entry_of b fs k h.ids h.left in
      let found = slice_get_within b k e.stands.1 e.stands.2 in
      absurd (omega (arith, l, found))

  -- it was entered before
  pub goes_met : (mark_at ms k ≡ Fresh → ⊥) → Goes b ms (fs ++ Enter k ∷ []) → ⊥
  goes_met n h =
      let e = entry_of b fs k h.ids h.left in
      let F : List ℕ → Type 0 = AllFresh ms in
      n (fresh_at ms (e.x ++ k ∷ ids e.inside) k (subst F e.is h.fresh) (has_middle e.x (ids e.inside) k))

  module _ (s : InstrSeq) (found : slice_get b k ≡ Some s) where
    -- a label in it names none that is around
    pub goes_astray : (AreWithin (k ∷ opened [] fs) s.instrs.items → ⊥) → Goes b ms (fs ++ Enter k ∷ []) → ⊥
    goes_astray n h =
        let e = entry_of b fs k h.ids h.left in
        let same : e.stands.1 ≡ s = same_Some e.stands.1 s (sym e.stands.2 ∙ found) in
        let F : InstrSeq → Type 0 = λ t. AreWithin (k ∷ opened [] fs) t.instrs.items in
        n (subst F same e.stands.3)

    module _ (l : k < length ms) (fresh : mark_at ms k ≡ Fresh) (within : AreWithin (k ∷ opened [] fs) s.instrs.items) where
      -- it is entered
      enter_forth : Goes b ms (fs ++ Enter k ∷ []) → Goes b (slice_set ms k Open) (fs ++ Leave k ∷ entering (children_in s.instrs.items))
      enter_forth h =
          let e = entry_of b fs k h.ids h.left in
          let same : e.stands.1 ≡ s = same_Some e.stands.1 s (sym e.stands.2 ∙ found) in
          let F : InstrSeq → Type 0 = λ t. Stand b e.inside (k ∷ opened [] fs) (children_in t.instrs.items) in
          let G : List ℕ → Type 0 = AllFresh ms in
          let D : List ℕ → Type 0 = AreDistinct in
          let p = fresh_out ms k l e.x (ids e.inside) (subst G e.is h.fresh) (subst D e.is h.distinct) in
          record {
            ids = e.x ++ ids e.inside;
            left = left_join b [] fs (Leave k ∷ entering (children_in s.instrs.items)) e.x (ids e.inside) e.front (stands_left b (k ∷ opened [] fs) (children_in s.instrs.items) e.inside (subst F same e.stands.4));
            fresh = p.0;
            distinct = p.1;
          }

      enter_back : Goes b (slice_set ms k Open) (fs ++ Leave k ∷ entering (children_in s.instrs.items)) → Goes b ms (fs ++ Enter k ∷ [])
      enter_back h =
          let r = left_split b [] fs (Leave k ∷ entering (children_in s.instrs.items)) h.ids h.left in
          let t = left_stands b (k ∷ opened [] fs) (children_in s.instrs.items) r.y r.back in
          let G : List ℕ → Type 0 = AllFresh (slice_set ms k Open) in
          let D : List ℕ → Type 0 = AreDistinct in
          let is : h.ids ≡ r.x ++ ids t.trees = r.is ∙ ap (λ (z : List ℕ). r.x ++ z) t.is in
          let p = fresh_in ms k l r.x (ids t.trees) fresh (subst G is h.fresh) (subst D is h.distinct) in
          let own = ids (Tree k t.trees Nothing) in
          let one : own ++ [] ≡ k ∷ ids t.trees = append-nil own ∙ ap (λ (z : List ℕ). k ∷ z) (append-nil (ids t.trees)) in
          let back : r.x ++ k ∷ ids t.trees ≡ r.x ++ (own ++ []) = ap (λ (z : List ℕ). r.x ++ z) (sym one) in
          let H : List ℕ → Type 0 = AllFresh ms in
          record {
            ids = r.x ++ (own ++ []);
            left = left_join b [] fs (Enter k ∷ []) r.x (own ++ []) r.front (t.trees, [], refl, (refl, s, found, within, t.stand, tt), refl);
            fresh = subst H back p.0;
            distinct = subst D back p.1;
          }

      pub goes_enter : (gs : List Step) → gs ≡ fs ++ Leave k ∷ entering (children_in s.instrs.items) → Goes b ms (fs ++ Enter k ∷ []) ↔ Goes b (slice_set ms k Open) gs
      goes_enter gs e =
          let F : List Step → Type 0 = Goes b (slice_set ms k Open) in
          (λ h. subst F (sym e) (enter_forth h), λ h. enter_back (subst F e h))

  -- it is left
  module _ (l : k < length ms) (open_is : mark_at ms k ≡ Open) where
    leave_forth : Goes b ms (fs ++ Leave k ∷ []) → Goes b (slice_set ms k Done) fs
    leave_forth h =
        let r = left_split b [] fs (Leave k ∷ []) h.ids h.left in
        let is : h.ids ≡ r.x = r.is ∙ ap (λ (z : List ℕ). r.x ++ z) r.back ∙ append-nil r.x in
        let F : List ℕ → Type 0 = AllFresh ms in
        let D : List ℕ → Type 0 = AreDistinct in
        record { ids = r.x; left = r.front; fresh = fresh_left ms k l r.x open_is (subst F is h.fresh); distinct = subst D is h.distinct }

    leave_back : Goes b (slice_set ms k Done) fs → Goes b ms (fs ++ Leave k ∷ [])
    leave_back h =
        let F : List ℕ → Type 0 = AllFresh ms in
        let D : List ℕ → Type 0 = AreDistinct in
        let is = sym (append-nil h.ids) in
        record {
          ids = h.ids ++ [];
          left = left_join b [] fs (Leave k ∷ []) h.ids [] h.left refl;
          fresh = subst F is (left_fresh ms k l h.ids h.fresh);
          distinct = subst D is h.distinct;
        }

    pub goes_leave : Goes b ms (fs ++ Leave k ∷ []) ↔ Goes b (slice_set ms k Done) fs
    goes_leave = (leave_forth, leave_back)

-- ---- what is around
pub around_entry : (fs : List Step) (k : ℕ) → opened [] (fs ++ Enter k ∷ []) ≡ opened [] fs
around_entry fs k = opened_append [] fs (Enter k ∷ [])

pub around_exit : (fs : List Step) (k : ℕ) → opened [] (fs ++ Leave k ∷ []) ≡ k ∷ opened [] fs
around_exit fs k = opened_append [] fs (Leave k ∷ [])

pub around_inside : (fs : List Step) (k : ℕ) (cs : List ℕ) → opened [] (fs ++ Leave k ∷ entering cs) ≡ k ∷ opened [] fs
around_inside fs k cs = opened_append [] fs (Leave k ∷ entering cs) ∙ opened_entering (k ∷ opened [] fs) cs

-- what is left at the end of a list is known, and open
pub exit_open : (ms : List Mark) (depth : ℕ) (fs : List Step) (k : ℕ) → Marked ms depth (opened [] (fs ++ Leave k ∷ [])) → mark_at ms k ≡ Open
exit_open ms depth fs k h =
    let F : List ℕ → Type 0 = λ ks. Has ks k in
    h.opens k (subst F (sym (around_exit fs k)) (inl refl))

pub exit_marked : (ms : List Mark) (depth : ℕ) (fs : List Step) (k : ℕ) → Marked ms depth (opened [] (fs ++ Leave k ∷ [])) → Marked (slice_set ms k Done) (depth - 1) (opened [] fs)
exit_marked ms depth fs k h =
    let F : List ℕ → Type 0 = Marked ms depth in
    marked_leave ms k (mark_known ms k (exit_open ms depth fs k h)) depth (opened [] fs) (subst F (around_exit fs k) h)

pub exit_deep : (ms : List Mark) (depth : ℕ) (fs : List Step) (k : ℕ) → Marked ms depth (opened [] (fs ++ Leave k ∷ [])) → 0 < depth
exit_deep ms depth fs k h =
    let e : length (opened [] (fs ++ Leave k ∷ [])) ≡ length (k ∷ opened [] fs) = ap length (around_exit fs k) in
    let n = h.counted in
    omega (arith, e, n)

-- ---- what the code has at hand
-- the sequence k was found, as the one that the code looked up at j: it is known, it was never entered, and `is` are its instructions
pub record Met (b : List InstrSeq) (ms : List Mark) (k j : ℕ) (s : InstrSeq) (is : List (Instr × InstrLocId)) : Type 0 where
  pub found : slice_get b k ≡ Some s
  pub known : k < length ms
  pub fresh : mark_at ms k ≡ Fresh
  pub at : j ≡ k
  pub items : is ≡ s.instrs.items

pub met_of : (b : List InstrSeq) (ms : List Mark) (k j : ℕ) (d : Mark) (s : InstrSeq) (is : List (Instr × InstrLocId))
    → length ms ≡ length b → k < length b → j ≡ k → get_or ms j d ≡ Fresh → s ≡ get_or b j s → is ≡ (get_or b j s).instrs.items → Met b ms k j s is
met_of b ms k j d s is sized l at mark read items =
    let G : ℕ → Type 0 = λ i. s ≡ get_or b i s in
    let known : k < length ms = omega (arith, sized) in
    record {
      found = slice_get_read b (length b) k s refl l (subst G at read);
      known = known;
      fresh = mark_read ms k j d Fresh at known mark;
      at = at;
      items = items ∙ ap (λ (t : InstrSeq). t.instrs.items) (sym read);
    }

module _ (b : List InstrSeq) (ms : List Mark) (fs : List Step) (k : ℕ) (s : InstrSeq) (depth : ℕ) (around : Marked ms depth (opened [] fs)) (j : ℕ) (is : List (Instr × InstrLocId)) (met : Met b ms k j s is) where
  marked_now : Marked (slice_set ms k Open) (depth + 1) (k ∷ opened [] fs)
  marked_now = marked_enter ms k met.known depth (opened [] fs) met.fresh around

  labels_now : all_within (slice_set ms j Open) (depth + 1) is ≡ all_within (slice_set ms k Open) (depth + 1) s.instrs.items
  labels_now = ap (λ (i : ℕ). all_within (slice_set ms i Open) (depth + 1) is) met.at ∙ ap (all_within (slice_set ms k Open) (depth + 1)) met.items

  pushed_now : (g hs : List Step) → g ≡ fs ++ Leave k ∷ [] → hs ≡ g ++ entering (children_in is) → hs ≡ fs ++ Leave k ∷ entering (children_in s.instrs.items)
  pushed_now g hs p q = q ∙ ap (λ (z : List Step). z ++ entering (children_in is)) p ∙ append_assoc fs (Leave k ∷ []) (entering (children_in is))
      ∙ ap (λ (ns : List (Instr × InstrLocId)). fs ++ Leave k ∷ entering (children_in ns)) met.items

  -- a label is wrong
  pub wrong_label : false ≡ all_within (slice_set ms j Open) (depth + 1) is → Goes b ms (fs ++ Enter k ∷ []) → ⊥
  wrong_label h = goes_astray b ms fs k s met.found (λ w. true≢false (sym (right_all_within (slice_set ms k Open) (depth + 1) (k ∷ opened [] fs) marked_now s.instrs.items w) ∙ sym labels_now ∙ sym h))

  -- they are right
  pub right_labels : true ≡ all_within (slice_set ms j Open) (depth + 1) is → (g hs : List Step) → g ≡ fs ++ Leave k ∷ [] → hs ≡ g ++ entering (children_in is) → Goes b ms (fs ++ Enter k ∷ []) ↔ Goes b (slice_set ms j Open) hs
  right_labels h g hs p q =
      let F : ℕ → Type 0 = λ i. Goes b ms (fs ++ Enter k ∷ []) ↔ Goes b (slice_set ms i Open) hs in
      let within = all_within_right (slice_set ms k Open) (depth + 1) (k ∷ opened [] fs) marked_now s.instrs.items (sym labels_now ∙ sym h) in
      subst F (sym met.at) (goes_enter b ms fs k s met.found met.known met.fresh within hs (pushed_now g hs p q))

  pub marked_inside : (g hs : List Step) → g ≡ fs ++ Leave k ∷ [] → hs ≡ g ++ entering (children_in is) → Marked (slice_set ms j Open) (depth + 1) (opened [] hs)
  marked_inside g hs p q =
      let F : List ℕ → Type 0 = Marked (slice_set ms k Open) (depth + 1) in
      let G : ℕ → Type 0 = λ i. Marked (slice_set ms i Open) (depth + 1) (opened [] hs) in
      subst G (sym met.at) (subst F (sym (ap (opened []) (pushed_now g hs p q) ∙ around_inside fs k (children_in s.instrs.items))) marked_now)

  pub enters_less : (g hs : List Step) → g ≡ fs ++ Leave k ∷ [] → hs ≡ g ++ entering (children_in is) → work b (slice_set ms j Open) + length hs < work b ms + length fs + 1
  enters_less g hs p q =
      let w = work_enter b ms k s met.found met.known met.fresh in
      let n = ap length (pushed_now g hs p q) ∙ length-append fs (Leave k ∷ entering (children_in s.instrs.items)) in
      let m = entering_length (children_in s.instrs.items) in
      let G : ℕ → Type 0 = λ i. work b (slice_set ms i Open) + length hs < work b ms + length fs + 1 in
      subst G (sym met.at) (omega (arith, w, n, m))

-- the count of what is around fits where one more step was pushed
pub depth_most : (depth : ℕ) (fs : List Step) → depth ≡ length (opened [] fs) → depth ≤ length fs
depth_most depth fs e = let m = opened_most [] fs in omega (arith, e, m)

pub replicated_fresh : (n k : ℕ) → mark_at (replicate n Fresh) k ≡ Fresh
replicated_fresh zero k = refl
replicated_fresh (suc n) zero = refl
replicated_fresh (suc n) (suc k) = replicated_fresh n k

-- the start: nothing is marked, and the entry is to be entered
all_fresh : (ms : List Mark) → ((k : ℕ) → mark_at ms k ≡ Fresh) → (ks : List ℕ) → AllFresh ms ks
all_fresh ms h [] = tt
all_fresh ms h (k ∷ ks) = (h k, all_fresh ms h ks)

module _ (b : List InstrSeq) (ms : List Mark) (entry : ℕ) (fresh : (k : ℕ) → mark_at ms k ≡ Fresh) where
  pub tree_goes : IsTree b entry → Goes b ms (Enter entry ∷ [])
  tree_goes t = record {
    ids = ids (Tree entry t.inside Nothing);
    left = (t.inside, [], sym (append-nil (ids (Tree entry t.inside Nothing))), t.stands, refl);
    fresh = all_fresh ms fresh (ids (Tree entry t.inside Nothing));
    distinct = t.once;
  }

  pub goes_tree : Goes b ms (Enter entry ∷ []) → IsTree b entry
  goes_tree h =
      let own = ids (Tree entry h.left.0 Nothing) in
      let is : h.ids ≡ own = h.left.2 ∙ ap (λ (m : List ℕ). own ++ m) h.left.4 ∙ append-nil own in
      let D : List ℕ → Type 0 = AreDistinct in
      record { inside = h.left.0; stands = h.left.3; once = subst D is h.distinct }

  pub marked_start : Marked ms 0 []
  marked_start = record {
    known = λ k o. (let e : Fresh ≡ Open = sym (fresh k) ∙ o in absurd (cc));
    opens = λ k h. absurd h;
    distinct = tt;
    counted = refl;
  }

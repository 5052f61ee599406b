-- One step of the test along the text.
use Rattle.std.proofs.Common.{ℕ, zero, suc, replicate, ◌+◌, ◌-◌, ◌<◌, ◌≤◌, ◌≡◌, ◌&&◌, Bool, true, false, List, [], ◌∷◌, ◌++◌, drop, length, Option, Some, None, refl, sym, ap, subst, arith, ◌∙◌, ◌⊎◌, inl, inr, append-nil, true≢false}
use Rattle.std.specs.Prelude.{IfSome, OnSome, is_some, slice_get, slice_index_or, slice_set}
use Rattle.std.proofs.lemmas.Bool.{cases_lt}
use Rattle.std.proofs.lemmas.List.{length-replicate, length-set}
use Rattle.std.proofs.lemmas.Option.{slice_get_past}
use Rattle.walrus_tree.specs.walrus_walks.walrus_instr.declared.instr.Instr.{Instr}
use Rattle.walrus_tree.specs.walrus_walks.walrus_instr.declared.instr.Instr.TheVariants.{Block, Loop, IfElse, Br, BrIf, BrTable, BrOnNull, BrOnNonNull, BrOnCast, BrOnCastFail, Rethrow, Try, TryTable}
use Rattle.walrus_tree.specs.walrus_walks.walrus_instr.declared.instr.LegacyCatch.{LegacyCatch}
use Rattle.walrus_tree.specs.walrus_walks.walrus_instr.declared.instr.LegacyCatch.TheVariants as Legacy
use Rattle.walrus_tree.specs.walrus_walks.walrus_instr.declared.seq.InstrLocId.{InstrLocId}
use Rattle.walrus_tree.specs.walrus_walks.walrus_instr.declared.seq.InstrSeq.{InstrSeq}
use Rattle.walrus_tree.specs.walrus_walks.Tree.{children, handlers}
use Rattle.walrus_tree.specs.declared.marks.Mark.{Mark}
use Rattle.walrus_tree.specs.declared.marks.Mark.TheVariants.{Fresh, Open, Done}
use Rattle.walrus_tree.specs.Testing.{mark_at, Marked, within}
use Rattle.walrus_tree.specs.Trees.{IsTree}
use Rattle.walrus_tree.proofs.Labels.{right_within, within_right}
use Rattle.walrus_tree.proofs.Marking.{mark_known, marked_enter, marked_leave}
use Rattle.walrus_body_text.specs.declared.depths.Depths.{Depths}
use Rattle.walrus_body_text.specs.declared.todo.Closer.TheVariants.{End}
use Rattle.walrus_body_text.specs.declared.todo.Met.{Met}
use Rattle.walrus_body_text.specs.declared.todo.Place.{Place}
use Rattle.walrus_body_text.specs.declared.todo.Todo.{Todo}
use Rattle.walrus_body_text.specs.declared.todo.Todo.TheVariants.{Enter, Inside}
use Rattle.walrus_body_text.specs.Doing.{closer_before, entering, handling, height_after, holds, marks_after, opened, place_of}
use Rattle.walrus_body_text.specs.Walking.{Advances, AdvancesAt, AdvancesIn, MetEnd, MetInstr, State, advanced, state}
use Rattle.walrus_body_text.specs.Tested.{IsMarked, IsPart, IsTested, Skips, SkipsIn, fresh_turns, is_fresh, may_begin, may_enter, names_labels, passes, passes_at, passes_in, turns, turns_from, turns_in, turns_of, work}
use Rattle.walrus_body_text.proofs.Lefts.{entering_opens, holds_none, opened_append}
use Rattle.walrus_body_text.proofs.Parts.{end_back, end_forth, enter_back, enter_forth, instr_back, instr_forth, part_known, part_met, part_tree, part_unknown, part_within, tree_part}
use Rattle.walrus_body_text.proofs.Steps.{drop_at, drop_past}

pub none_named : (ms : List Mark) (n : ℕ) (i : Instr) → names_labels i ≡ false → within ms n i ≡ true
none_named ms n (Br k) h = absurd cc
none_named ms n (BrIf k) h = absurd cc
none_named ms n (BrTable k ks) h = absurd cc
none_named ms n (BrOnNull k) h = absurd cc
none_named ms n (BrOnNonNull k) h = absurd cc
none_named ms n (BrOnCast k from to) h = absurd cc
none_named ms n (BrOnCastFail k from to) h = absurd cc
none_named ms n (Rethrow depth) h = absurd cc
none_named ms n (Try k catches) h = absurd cc
none_named ms n (TryTable k catches) h = absurd cc
none_named ms n _ h = refl

and_true : (x y : Bool) → x && y ≡ true → (x ≡ true) × (y ≡ true)
and_true true y h = (refl, h)
and_true false y h = absurd (true≢false (sym h))

-- what the test of a step answers
pub met_some : (o : Option Met) (met : Met) (p : Bool) → o ≡ Some met → is_some o ≡ p → p ≡ true
met_some o met p is e = sym e ∙ ap is_some is

pub met_is : (o : Option Met) (met : Met) (P : Met → Type 0) → o ≡ Some met → IfSome o P → P met
met_is o met P is h = let F : Option Met → Type 0 = λ z. IfSome z P in subst F is h

pub met_none : (o : Option Met) (p : Bool) → o ≡ None → is_some o ≡ p → p ≡ false
met_none o p is e = sym e ∙ ap is_some is

-- the same of what is entered
pub place_some : (o : Option Place) (at : Place) (p : Bool) → o ≡ Some at → is_some o ≡ p → p ≡ true
place_some o at p is e = sym e ∙ ap is_some is

pub place_is : (o : Option Place) (at : Place) (P : Place → Type 0) → o ≡ Some at → IfSome o P → P at
place_is o at P is h = let F : Option Place → Type 0 = λ z. IfSome z P in subst F is h

pub place_on : (o : Option Place) (at : Place) (P : Type 0) → o ≡ Some at → OnSome o P → P
place_on o at P is h = let F : Option Place → Type 0 = λ z. OnSome z P in subst F is h

pub place_none : (o : Option Place) (p : Bool) → o ≡ None → is_some o ≡ p → p ≡ false
place_none o p is e = sym e ∙ ap is_some is

-- ---- turns that are left

turns_append : (b : List InstrSeq) (xs ys : List Todo) → turns b (xs ++ ys) ≡ turns b xs + turns b ys
turns_append b [] ys = omega arith
turns_append b (x ∷ xs) ys = let e = turns_append b xs ys in omega (arith, e)

turns_last : (b : List InstrSeq) (ts : List Todo) (t : Todo) → turns b (ts ++ t ∷ []) ≡ turns b ts + turns_of b t
turns_last b ts t = let e = turns_append b ts (t ∷ []) in omega (arith, e)

handling_turns : (b : List InstrSeq) (parts : List LegacyCatch) → turns b (handling parts) ≡ length (handlers parts)
handling_turns b [] = refl
handling_turns b (Legacy.Catch tag j ∷ parts) = let e = turns_last b (handling parts) (Enter j (closer_before parts)) in let h = handling_turns b parts in omega (arith, e, h)
handling_turns b (Legacy.CatchAll j ∷ parts) = let e = turns_last b (handling parts) (Enter j (closer_before parts)) in let h = handling_turns b parts in omega (arith, e, h)
handling_turns b (Legacy.Delegate depth ∷ parts) = handling_turns b parts

entering_turns : (b : List InstrSeq) (i : Instr) → turns b (entering i) ≡ length (children i)
entering_turns b (Block k) = refl
entering_turns b (Loop k) = refl
entering_turns b (IfElse k other) = refl
entering_turns b (Try k catches) =
    let e = turns_last b (handling catches.items) (Enter k (closer_before catches.items)) in let h = handling_turns b catches.items in omega (arith, e, h)
entering_turns b (TryTable k catches) = refl
entering_turns b _ = refl

work_enter : (b : List InstrSeq) (ms : List Mark) (k : ℕ) (s : InstrSeq) → slice_get b k ≡ Some s → k < length ms → mark_at ms k ≡ Fresh → work b (slice_set ms k Open) + (1 + turns_in s.instrs.items) ≡ work b ms
work_enter [] ms k s e l f = absurd (let none = e in cc)
work_enter (x ∷ b) [] k s e l f = absurd (omega (arith, l))
work_enter (x ∷ b) (m ∷ ms) zero s e l f =
    let same : x ≡ s = cc in
    let own : fresh_turns x m ≡ 1 + turns_in s.instrs.items = ap (fresh_turns x) f ∙ ap (λ (y : InstrSeq). 1 + turns_in y.instrs.items) same in
    omega (arith, own)
work_enter (x ∷ b) (m ∷ ms) (suc k) s e l f = let r = work_enter b ms k s e (omega (arith, l)) f in omega (arith, r)

work_leave : (b : List InstrSeq) (ms : List Mark) (k : ℕ) → work b (slice_set ms k Done) ≤ work b ms
work_leave [] ms k = omega arith
work_leave (s ∷ b) [] k = omega arith
work_leave (s ∷ b) (m ∷ ms) zero = omega arith
work_leave (s ∷ b) (m ∷ ms) (suc k) = let r = work_leave b ms k in omega (arith, r)

-- ---- what is next is entered

fresh_is : (m : Mark) → is_fresh m ≡ true → m ≡ Fresh
fresh_is Fresh h = refl
fresh_is Open h = absurd (true≢false (sym h))
fresh_is Done h = absurd (true≢false (sym h))

read_known : (ms : List Mark) (k : ℕ) → k < length ms → slice_index_or ms k Done ≡ mark_at ms k
read_known [] k l = absurd (omega arith)
read_known (m ∷ ms) zero l = refl
read_known (m ∷ ms) (suc k) l = read_known ms k (omega arith)

may_known : (ms : List Mark) (k : ℕ) → may_enter ms k ≡ true → k < length ms
may_known [] k h = absurd (true≢false (sym h))
may_known (m ∷ ms) zero h = omega arith
may_known (m ∷ ms) (suc k) h = let l = may_known ms k h in omega (arith, l)

seq_known : (b : List InstrSeq) (k : ℕ) → k < length b → (s : InstrSeq) × (slice_get b k ≡ Some s)
seq_known [] k l = absurd (omega arith)
seq_known (s ∷ b) zero l = (s, refl)
seq_known (s ∷ b) (suc k) l = seq_known b k (omega (arith, l))

record Begun (b : List InstrSeq) (ts : List Todo) (top : Todo) (d : Depths) : Type 0 where
  pub sized : length (marks_after d.marks.items top) ≡ length b
  pub marked : Marked (marks_after d.marks.items top) (height_after d.height top) ((place_of top).seq ∷ opened [] ts)
  pub forth : IsPart b d.marks.items (ts ++ top ∷ []) → IsPart b (marks_after d.marks.items top) (ts ++ Inside (place_of top) ∷ [])
  pub back : IsPart b (marks_after d.marks.items top) (ts ++ Inside (place_of top) ∷ []) → IsPart b d.marks.items (ts ++ top ∷ [])
  pub less : work b (marks_after d.marks.items top) + turns_of b (Inside (place_of top)) ≤ work b d.marks.items + turns_of b top

begun : (b : List InstrSeq) (ts : List Todo) (top : Todo) (d : Depths) → IsMarked b (state (ts ++ top ∷ []) d) → may_begin d.marks.items top ≡ true → Begun b ts top d
begun b ts (Enter k c) d m h =
    let ms = d.marks.items in
    let l = may_known ms k h in
    let fresh : mark_at ms k ≡ Fresh = sym (read_known ms k l) ∙ fresh_is (slice_index_or ms k Done) h in
    let sized = m.sized in
    let s = seq_known b k (omega (arith, l, sized)) in
    let F : List ℕ → Type 0 = Marked ms d.height in
    let e = work_enter b ms k s.0 s.1 l fresh in
    let t : turns_from 0 (slice_get b k) ≡ turns_in s.0.instrs.items = ap (turns_from 0) s.1 in
    record {
      sized = length-set ms k Open ∙ sized;
      marked = marked_enter ms k l d.height (opened [] ts) fresh (subst F (opened_append [] ts (Enter k c ∷ [])) m.marked);
      forth = enter_forth b ms ts k c l;
      back = enter_back b ms ts k c l fresh;
      less = omega (arith, e, t);
    }
begun b ts (Inside at) d m h =
    let F : List ℕ → Type 0 = Marked d.marks.items d.height in
    record { sized = m.sized; marked = subst F (opened_append [] ts (Inside at ∷ [])) m.marked; forth = λ p. p; back = λ p. p; less = omega arith }

-- ---- one step

record Turned (b : List InstrSeq) (ts : List Todo) (top : Todo) (d : Depths) (new : State) : Type 0 where
  pub marked : IsMarked b new
  pub forth : IsPart b d.marks.items (ts ++ top ∷ []) → IsPart b new.marks new.todo
  pub back : IsPart b new.marks new.todo → IsPart b d.marks.items (ts ++ top ∷ [])
  pub less : work b new.marks + turns b new.todo < work b d.marks.items + turns b (ts ++ top ∷ [])

module _ (b : List InstrSeq) (ts : List Todo) (top : Todo) (d : Depths) (g : Begun b ts top d) where
  abbrev at : Place
  at = place_of top

  abbrev ms : List Mark
  ms = marks_after d.marks.items top

  abbrev height : ℕ
  height = height_after d.height top

  module _ (s : InstrSeq) (found : slice_get b at.seq ≡ Some s) where
    turns_here : (is : List (Instr × InstrLocId)) → drop at.next s.instrs.items ≡ is → turns_of b (Inside at) ≡ 1 + turns_in is
    turns_here is e = let f : turns_from at.next (slice_get b at.seq) ≡ turns_in is = ap (turns_from at.next) found ∙ ap turns_in e in omega (arith, f)

    instr_turned : (i : Instr × InstrLocId) (met : Met) (new : State) → slice_get s.instrs.items at.next ≡ Some i → within ms height i.0 ≡ true → MetInstr top i met (state ts d) new → Turned b ts top d new
    instr_turned i met new e w h =
        let here = drop_at s.instrs.items at.next i e in
        let env = at.seq ∷ opened [] ts in
        let behind = Inside (advanced at) in
        let list : List Todo = (ts ++ behind ∷ []) ++ entering i.0 in
        let opens : opened [] list ≡ env = opened_append [] (ts ++ behind ∷ []) (entering i.0) ∙ ap (λ (z : List ℕ). opened z (entering i.0)) (opened_append [] ts (behind ∷ [])) ∙ entering_opens env i.0 in
        let is_within = within_right ms height env g.marked i.0 w in
        let F : List ℕ → Type 0 = Marked ms height in
        let M : List Mark → Type 0 = λ z. Marked z new.height (opened [] new.todo) in
        let N : ℕ → Type 0 = λ z. Marked ms z (opened [] new.todo) in
        let L : List Todo → Type 0 = λ z. Marked ms height (opened [] z) in
        let Q : List Mark → Type 0 = λ z. IsPart b z new.todo in
        let R : List Todo → Type 0 = λ z. IsPart b ms z in
        let all : turns b new.todo ≡ (turns b ts + turns_of b behind) + length (children i.0) =
        ap (turns b) h.todo ∙ turns_append b (ts ++ behind ∷ []) (entering i.0) ∙ ap (λ (z : ℕ). z + turns b (entering i.0)) (turns_last b ts behind)
        ∙ ap (λ (z : ℕ). (turns b ts + turns_of b behind) + z) (entering_turns b i.0) in
        let was = turns_here (i ∷ drop (at.next + 1) s.instrs.items) here in
        let is : turns_from (at.next + 1) (slice_get b at.seq) ≡ turns_in (drop (at.next + 1) s.instrs.items) = ap (turns_from (at.next + 1)) found in
        let last = turns_last b ts top in
        let l = g.less in
        let own : work b new.marks ≡ work b ms = ap (work b) h.marks in
        record {
          marked = record { sized = ap length h.marks ∙ g.sized; marked = subst M (sym h.marks) (subst N (sym h.height) (subst L (sym h.todo) (subst F (sym opens) g.marked))) };
          forth = λ p. subst Q (sym h.marks) (subst R (sym h.todo) (instr_forth b ms ts at s i found here (g.forth p)));
          back = λ p. g.back (instr_back b ms ts at s i found here is_within (subst R h.todo (subst Q h.marks p)));
          less = omega (arith, all, was, is, last, l, own);
        }

    end_turned : (met : Met) (new : State) → slice_get s.instrs.items at.next ≡ None → MetEnd top s.end met (state ts d) new → Turned b ts top d new
    end_turned met new e h =
        let here = drop_past s.instrs.items at.next e in
        let open_is = g.marked.opens at.seq (inl refl) in
        let known = mark_known ms at.seq open_is in
        let M : List Mark → Type 0 = λ z. Marked z new.height (opened [] new.todo) in
        let N : ℕ → Type 0 = λ z. Marked (slice_set ms at.seq Done) z (opened [] new.todo) in
        let L : List Todo → Type 0 = λ z. Marked (slice_set ms at.seq Done) (height - 1) (opened [] z) in
        let Q : List Mark → Type 0 = λ z. IsPart b z new.todo in
        let R : List Todo → Type 0 = λ z. IsPart b (slice_set ms at.seq Done) z in
        let was = turns_here [] here in
        let all : turns b new.todo ≡ turns b ts = ap (turns b) h.todo in
        let own : work b new.marks ≡ work b (slice_set ms at.seq Done) = ap (work b) h.marks in
        let fewer = work_leave b ms at.seq in
        let last = turns_last b ts top in
        let l = g.less in
        record {
          marked = record { sized = ap length h.marks ∙ length-set ms at.seq Done ∙ g.sized; marked = subst M (sym h.marks) (subst N (sym h.height) (subst L (sym h.todo) (marked_leave ms at.seq known height (opened [] ts) g.marked))) };
          forth = λ p. subst Q (sym h.marks) (subst R (sym h.todo) (end_forth b ms ts at s found here known open_is (g.forth p)));
          back = λ p. g.back (end_back b ms ts at s found here known open_is (subst R h.todo (subst Q h.marks p)));
          less = omega (arith, was, all, own, fewer, last, l);
        }

    in_turned : (o : Option (Instr × InstrLocId)) (met : Met) (new : State) → slice_get s.instrs.items at.next ≡ o → passes_in ms height o ≡ true → AdvancesIn top met s o (state ts d) new → Turned b ts top d new
    in_turned (Some i) met new e w h = instr_turned i met new e w h
    in_turned None met new e w h = end_turned met new e h

    in_strays : (o : Option (Instr × InstrLocId)) → slice_get s.instrs.items at.next ≡ o → passes_in ms height o ≡ false → IsPart b d.marks.items (ts ++ top ∷ []) → ⊥
    in_strays (Some i) e w p =
        let is_within = part_within b ms ts at s i found (drop_at s.instrs.items at.next i e) (g.forth p) in
        true≢false (sym (right_within ms height (at.seq ∷ opened [] ts) g.marked i.0 is_within) ∙ w)
    in_strays None e w p = true≢false w

  at_turned : (o : Option InstrSeq) (met : Met) (new : State) → slice_get b at.seq ≡ o → passes_at ms height at.next o ≡ true → AdvancesAt top met o (state ts d) new → Turned b ts top d new
  at_turned (Some s) met new e w h = in_turned s e (slice_get s.instrs.items at.next) met new refl w h
  at_turned None met new e w h = absurd (true≢false (sym w))

  at_strays : (o : Option InstrSeq) → slice_get b at.seq ≡ o → passes_at ms height at.next o ≡ false → IsPart b d.marks.items (ts ++ top ∷ []) → ⊥
  at_strays (Some s) e w p = in_strays s e (slice_get s.instrs.items at.next) refl w p
  at_strays None e w p = part_known b ms ts at e (g.forth p)

turned : (b : List InstrSeq) (ts : List Todo) (top : Todo) (d : Depths) (met : Met) (new : State) → IsMarked b (state (ts ++ top ∷ []) d) → passes b top (state ts d) ≡ true → Advances b top met (state ts d) new → Turned b ts top d new
turned b ts top d met new m w h =
    let p = and_true (may_begin d.marks.items top) (passes_at (marks_after d.marks.items top) (height_after d.height top) (place_of top).next (slice_get b (place_of top).seq)) w in
    at_turned b ts top d (begun b ts top d m p.0) (slice_get b (place_of top).seq) met new refl p.1 h

may_not : (b : List InstrSeq) (ts : List Todo) (top : Todo) (d : Depths) → IsMarked b (state (ts ++ top ∷ []) d) → may_begin d.marks.items top ≡ false → IsPart b d.marks.items (ts ++ top ∷ []) → ⊥
may_not b ts (Enter k c) d m h p = unknown_or_met (cases_lt k (length d.marks.items))
  where
    unknown_or_met : (k < length d.marks.items) ⊎ (length d.marks.items ≤ k) → ⊥
    unknown_or_met (inl l) = part_met b d.marks.items ts k c (λ f. true≢false (sym (ap is_fresh (read_known d.marks.items k l ∙ f)) ∙ h)) p
    unknown_or_met (inr l) = let sized = m.sized in part_unknown b d.marks.items ts k c (slice_get_past b k (omega (arith, l, sized))) p
may_not b ts (Inside _) d m h p = true≢false h

stray : (b : List InstrSeq) (ts : List Todo) (top : Todo) (d : Depths) → IsMarked b (state (ts ++ top ∷ []) d) → passes b top (state ts d) ≡ false → IsPart b d.marks.items (ts ++ top ∷ []) → ⊥
stray b ts top d m w p = which (may_begin d.marks.items top) refl
  where
    which : (x : Bool) → may_begin d.marks.items top ≡ x → ⊥
    which true e =
        let o = slice_get b (place_of top).seq in
        let rest = passes_at (marks_after d.marks.items top) (height_after d.height top) (place_of top).next o in
        at_strays b ts top d (begun b ts top d m e) o refl (sym (ap (λ (z : Bool). z && rest) e) ∙ w) p
    which false e = may_not b ts top d m e p

-- ---- instructions that hold no sequence, one after another

pub skips_none : (b : List InstrSeq) (d : Depths) (top : Todo) → Skips b d top top
skips_none b d top = λ ts m. record { marked = m; parts = (λ p. p, λ p. p); less = omega arith }

pub skips_more : (b : List InstrSeq) (d : Depths) (top mid next : Todo) → Skips b d top mid → Skips b d mid next → Skips b d top next
skips_more b d top mid next h k = λ ts m.
    let f = h ts m in
    let s = k ts f.marked in
    record { marked = s.marked; parts = (λ p. s.parts.0 (f.parts.0 p), λ p. f.parts.1 (s.parts.1 p)); less = let x = f.less in let y = s.less in omega (arith, x, y) }

pub turn_skips : (b : List InstrSeq) (at : Place) (s : InstrSeq) (i : Instr × InstrLocId) (d : Depths) → slice_get b at.seq ≡ Some s → slice_get s.instrs.items at.next ≡ Some i → holds i.0 ≡ false → within d.marks.items d.height i.0 ≡ true
    → Skips b d (Inside at) (Inside (advanced at))
turn_skips b at s i d found stands none w = λ ts m.
    let ms = d.marks.items in
    let here = drop_at s.instrs.items at.next i stands in
    let env = at.seq ∷ opened [] ts in
    let behind = Inside (advanced at) in
    let was : opened [] (ts ++ Inside at ∷ []) ≡ env = opened_append [] ts (Inside at ∷ []) in
    let is : opened [] (ts ++ behind ∷ []) ≡ env = opened_append [] ts (behind ∷ []) in
    let F : List ℕ → Type 0 = Marked ms d.height in
    let marked = subst F was m.marked in
    let list : (ts ++ behind ∷ []) ++ entering i.0 ≡ ts ++ behind ∷ [] = ap (λ (z : List Todo). (ts ++ behind ∷ []) ++ z) (holds_none i.0 none) ∙ append-nil (ts ++ behind ∷ []) in
    let R : List Todo → Type 0 = IsPart b ms in
    let one : turns_from at.next (slice_get b at.seq) ≡ turns_in (i ∷ drop (at.next + 1) s.instrs.items) = ap (turns_from at.next) found ∙ ap turns_in here in
    let two : turns_from (at.next + 1) (slice_get b at.seq) ≡ turns_in (drop (at.next + 1) s.instrs.items) = ap (turns_from (at.next + 1)) found in
    record {
      marked = record { sized = m.sized; marked = subst F (sym is) marked };
      parts = (λ p. subst R list (instr_forth b ms ts at s i found here p), λ p. instr_back b ms ts at s i found here (within_right ms d.height env marked i.0 w) (subst R (sym list) p));
      less = omega (arith, one, two);
    }

-- ---- in the words of the loops

replicated_fresh : (n k : ℕ) → mark_at (replicate n Fresh) k ≡ Fresh
replicated_fresh zero k = refl
replicated_fresh (suc n) zero = refl
replicated_fresh (suc n) (suc k) = replicated_fresh n k

pub test_starts : (b : List InstrSeq) (entry : ℕ) (items : List Todo) (d : Depths) → items ≡ Enter entry End ∷ [] → d.marks.items ≡ replicate (length b) Fresh → d.height ≡ 0 → IsTested b entry (state items d)
test_starts b entry items d is marks low =
    let F : List Todo → Type 0 = λ z. IsTested b entry (state z d) in
    let N : List Mark → Type 0 = λ z. (k : ℕ) → mark_at z k ≡ Fresh in
    let fresh = subst N (sym marks) (replicated_fresh (length b)) in
    subst F (sym is) (record {
      marked = record {
        sized = ap length marks ∙ length-replicate (length b) Fresh;
        marked = record { known = λ k o. absurd (let e : Fresh ≡ Open = sym (fresh k) ∙ o in cc); opens = λ k h. absurd h; distinct = tt; counted = low };
      };
      forth = tree_part b d.marks.items entry End fresh;
      back = part_tree b d.marks.items entry End;
    })

-- what is next was entered, and is open
pub record Begins (b : List InstrSeq) (entry : ℕ) (items ts : List Todo) (at : Place) (d e : Depths) : Type 0 where
  pub tested : IsTested b entry (state (ts ++ Inside at ∷ []) e)
  pub less : work b e.marks.items + turns b (ts ++ Inside at ∷ []) ≤ work b d.marks.items + turns b items

module _ (b : List InstrSeq) (entry : ℕ) (items ts : List Todo) (top : Todo) (d : Depths) (is : items ≡ ts ++ top ∷ []) (t : IsTested b entry (state items d)) where
  abbrev taken : IsTested b entry (state (ts ++ top ∷ []) d)
  taken = let F : List Todo → Type 0 = λ z. IsTested b entry (state z d) in subst F is t

  pub test_begins : (at : Place) (e : Depths) → at ≡ place_of top → may_begin d.marks.items top ≡ true → e.marks.items ≡ marks_after d.marks.items top → e.height ≡ height_after d.height top → Begins b entry items ts at d e
  test_begins at e same may marks high =
      let g = begun b ts top d taken.marked may in
      let here = Inside (place_of top) in
      let list : List Todo = ts ++ here ∷ [] in
      let on : opened [] list ≡ (place_of top).seq ∷ opened [] ts = opened_append [] ts (here ∷ []) in
      let L : List ℕ → Type 0 = Marked (marks_after d.marks.items top) (height_after d.height top) in
      let N : ℕ → Type 0 = λ z. Marked (marks_after d.marks.items top) z (opened [] list) in
      let M : List Mark → Type 0 = λ z. Marked z e.height (opened [] list) in
      let Q : List Mark → Type 0 = λ z. IsPart b z list in
      let B : Place → Type 0 = λ z. Begins b entry items ts z d e in
      let one = turns_last b ts top in
      let two = turns_last b ts here in
      let was = ap (turns b) is in
      let own : work b e.marks.items ≡ work b (marks_after d.marks.items top) = ap (work b) marks in
      let l = g.less in
      subst B (sym same) (record {
        tested = record {
          marked = record { sized = ap length marks ∙ g.sized; marked = subst M (sym marks) (subst N (sym high) (subst L (sym on) g.marked)) };
          forth = λ q. subst Q (sym marks) (g.forth (taken.forth q));
          back = λ p. taken.back (g.back (subst Q marks p));
        };
        less = omega (arith, one, two, was, own, l);
      })

  pub test_begins_none : may_begin d.marks.items top ≡ false → IsTree b entry → ⊥
  test_begins_none w q = may_not b ts top d taken.marked w (taken.forth q)

-- a turn of a loop over the list
pub record Kept (b : List InstrSeq) (entry : ℕ) (items : List Todo) (d : Depths) (new : State) : Type 0 where
  pub tested : IsTested b entry new
  pub less : work b new.marks + turns b new.todo < work b d.marks.items + turns b items

module _ (b : List InstrSeq) (entry : ℕ) (items ts : List Todo) (top next : Todo) (d : Depths) (is : items ≡ ts ++ top ∷ []) (t : IsTested b entry (state items d)) (skips : Skips b d top next) where
  abbrev F : List Todo → Type 0
  F z = IsTested b entry (state z d)

  skipped : SkipsIn b d ts top next
  skipped = skips ts (subst F is t).marked

  pub test_goes : (met : Met) (new : State) → passes b next (state ts d) ≡ true → Advances b next met (state ts d) new → Kept b entry items d new
  test_goes met new w h =
      let was = subst F is t in
      let k = turned b ts next d met new skipped.marked w h in
      let e = ap (turns b) is in
      let one = turns_last b ts top in
      let two = turns_last b ts next in
      let l = k.less in
      let m = skipped.less in
      record {
        tested = record { marked = k.marked; forth = λ q. k.forth (skipped.parts.0 (was.forth q)); back = λ p. was.back (skipped.parts.1 (k.back p)) };
        less = omega (arith, e, one, two, l, m);
      }

  pub test_strays : passes b next (state ts d) ≡ false → IsTree b entry → ⊥
  test_strays w q = stray b ts next d skipped.marked w (skipped.parts.0 ((subst F is t).forth q))

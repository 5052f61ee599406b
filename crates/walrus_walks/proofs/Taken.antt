-- What one step tells, over plain lists.
use Rattle.std.proofs.Common.{ℕ, zero, suc, ◌+◌, ◌<◌, ◌≤◌, ◌≡◌, List, [], ◌∷◌, ◌++◌, length, drop, get_or, Some, sym, ap, subst, arith, ◌∙◌, add-one, drop-cons, length-append, append_assoc}
use Rattle.std.specs.Prelude.{slice_get}
use Rattle.std.specs.List.{FoldsTo}
use Rattle.std.proofs.lemmas.List.{drop_all}
use Rattle.walrus_instr.specs.declared.instr.Instr.{Instr}
use Rattle.walrus_instr.specs.declared.seq.InstrLocId.{InstrLocId}
use Rattle.walrus_instr.specs.declared.seq.InstrSeq.{InstrSeq}
use Rattle.walrus_walks.specs.declared.steps.Step.{Step}
use Rattle.walrus_walks.specs.declared.steps.Step.TheVariants.{Enter, Resume}
use Rattle.walrus_walks.specs.Tree.{children, children_in, IsNested}
use Rattle.walrus_walks.specs.Events.{Event, StartOf, EndOf, Visits, names, block_names}
use Rattle.walrus_walks.specs.Fronts.{FoldsFront}
use Rattle.walrus_walks.specs.Steps.{entering, ahead, left, AreSteps, Told}
use Rattle.walrus_walks.proofs.Nested.{AllNested, nested_seq, nested_split}
use Rattle.walrus_walks.proofs.Folds.{folds_append}
use Rattle.walrus_walks.proofs.Turns.{left_snoc, enters, ends, resumes, steps_snoc, steps_entering}

module _ {V : Type 0} (step : V → Event → V → Type 0) (b : List InstrSeq) (fs : List Step) (k : ℕ) (s : InstrSeq) where
  -- a sequence is begun
  pub enter_told : IsNested b k → slice_get b k ≡ Some s → (v u w : V) → step v (StartOf s) u → FoldsTo step u (block_names s.ty) w → (gs : List Step) → gs ≡ fs ++ Resume k 0 ∷ [] → Told step v (ahead b (Enter k) ++ left b fs) w (left b gs)
  enter_told h e v u w p q gs r = record {
    events = StartOf s ∷ block_names s.ty;
    some = omega arith;
    splits = enters b fs k s h e ∙ ap (λ (hs : List Step). (StartOf s ∷ block_names s.ty) ++ left b hs) (sym r);
    told = (u, p, q);
  }

  -- a sequence is ended
  pub end_told : (i : ℕ) → slice_get b k ≡ Some s → length s.instrs.items ≤ i → (v w : V) → step v (EndOf s) w → Told step v (ahead b (Resume k i) ++ left b fs) w (left b fs)
  end_told i e l v w p = record {
    events = EndOf s ∷ [];
    some = omega arith;
    splits = ends b fs k i s e (drop_all i s.instrs.items l);
    told = (w, p, λ _. w);
  }

  -- an instruction is met
  pub resume_told : (i : ℕ) (x : Instr × InstrLocId) → slice_get b k ≡ Some s → i < length s.instrs.items → x ≡ get_or s.instrs.items i x → (v u w : V) → step v (Visits x.0 x.1) u → FoldsTo step u (names x.0) w
      → (gs hs : List Step) → gs ≡ fs ++ Resume k (i + 1) ∷ [] → hs ≡ gs ++ entering (children x.0) → Told step v (ahead b (Resume k i) ++ left b fs) w (left b hs)
  resume_told i x e l a v u w p q gs hs r t =
      let d : drop i s.instrs.items ≡ x ∷ drop (i + 1) s.instrs.items = rw (add-one, drop-cons s.instrs.items i x, ← a) in
      record {
        events = Visits x.0 x.1 ∷ names x.0;
        some = omega arith;
        splits = resumes b fs k i s x e d ∙ ap (λ (es : List Step). (Visits x.0 x.1 ∷ names x.0) ++ left b es) (sym (t ∙ ap (λ (es : List Step). es ++ entering (children x.0)) r));
        told = (u, p, q);
      }

-- what an instruction among these holds is nested, where all that they hold is
pub nested_at : (b : List InstrSeq) (is : List (Instr × InstrLocId)) (i : ℕ) (x : Instr × InstrLocId) → AllNested b (children_in is) → i < length is → x ≡ get_or is i x → AllNested b (children x.0)
nested_at b [] i x h l e = absurd (omega arith)
nested_at b (y ∷ is) zero x h l e =
    let F : Instr × InstrLocId → Type 0 = λ z. AllNested b (children z.0) in
    subst F (sym e) (nested_split b (children y.0) (children_in is) h).0
nested_at b (y ∷ is) (suc i) x h l e = nested_at b is i x (nested_split b (children y.0) (children_in is) h).1 (omega arith) e

-- after an instruction the steps are in nested sequences
pub resume_steps : (b : List InstrSeq) (fs : List Step) (k : ℕ) (s : InstrSeq) (i : ℕ) (x : Instr × InstrLocId) → IsNested b k → slice_get b k ≡ Some s → i < length s.instrs.items → x ≡ get_or s.instrs.items i x → AreSteps b fs
    → (gs hs : List Step) → gs ≡ fs ++ Resume k (i + 1) ∷ [] → hs ≡ gs ++ entering (children x.0) → AreSteps b hs
resume_steps b fs k s i x n e l a h gs hs r t =
    let F : List Step → Type 0 = AreSteps b in
    let all = nested_at b s.instrs.items i x (nested_seq b k s n e) l a in
    subst F (sym (t ∙ ap (λ (es : List Step). es ++ entering (children x.0)) r)) (steps_entering b (fs ++ Resume k (i + 1) ∷ []) (children x.0) (steps_snoc b fs (Resume k (i + 1)) h n) all)

-- a step taken from the end of the list: what is then left completes what was left
module _ {V : Type 0} (step : V → Event → V → Type 0) (b : List InstrSeq) (f : Step) (fs gs items : List Step) (v w : V) where
  left_before : items ≡ fs ++ f ∷ [] → (t : Told step v (ahead b f ++ left b fs) w (left b gs)) → left b items ≡ t.events ++ left b gs
  left_before e t = ap (left b) e ∙ left_snoc b fs f ∙ t.splits

  pub told_on : (t : Told step v (ahead b f ++ left b fs) w (left b gs)) → items ≡ fs ++ f ∷ [] → (last : V) → FoldsTo step w (left b gs) last → FoldsTo step v (left b items) last
  told_on t e last h =
      let F : List Event → Type 0 = λ es. FoldsTo step v es last in
      subst F (sym (left_before e t)) (folds_append step v t.events w (left b gs) last t.told h)

  -- told in part after the step, it is told in part
  pub part_on : (t : Told step v (ahead b f ++ left b fs) w (left b gs)) → items ≡ fs ++ f ∷ [] → (last : V) → FoldsFront step w (left b gs) last → FoldsFront step v (left b items) last
  part_on t e last p = record {
    part = t.events ++ p.part;
    rest = p.rest;
    splits = left_before e t ∙ ap (λ (es : List Event). t.events ++ es) p.splits ∙ sym (append_assoc t.events p.part p.rest);
    folds = folds_append step v t.events w p.part last t.told p.folds;
  }

  pub told_less : (t : Told step v (ahead b f ++ left b fs) w (left b gs)) → items ≡ fs ++ f ∷ [] → length (left b gs) < length (left b items)
  told_less t e = omega (arith, t.some, ap length (left_before e t), length-append t.events (left b gs))

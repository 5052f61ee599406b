-- One sequence is changed, and what it holds waits.
use Rattle.std.proofs.Common.{ℕ, zero, suc, ◌<◌, ◌≡◌, List, [], ◌∷◌, ◌++◌, length, map, get_or, Some, refl, sym, ap, subst, arith, ◌∙◌}
use Rattle.std.specs.Prelude.{slice_get, slice_set}
use Rattle.walrus_instr.specs.declared.instr.Instr.{Instr}
use Rattle.walrus_instr.specs.declared.seq.InstrLocId.{InstrLocId}
use Rattle.walrus_instr.specs.declared.seq.InstrSeq.{InstrSeq}
use Rattle.walrus_walks.specs.declared.steps.Step.{Step}
use Rattle.walrus_walks.specs.Tree.{children}
use Rattle.walrus_walks.specs.Events.{Event}
use Rattle.walrus_walks.specs.Steps.{entering}
use Rattle.walrus_walks.specs.Checks.{pushed}
use Rattle.walrus_walks.specs.Order.{last_first, held_by}
use Rattle.walrus_walks.specs.Changing.{SeqChanged, SeqVisited}
use Rattle.walrus_walks.proofs.Entering.{entering_append}

-- what was pushed instruction by instruction is entered last instruction first
pub pushed_entering : (is : List (Instr × InstrLocId)) → pushed is ≡ entering (last_first is)
pushed_entering [] = refl
pushed_entering (i ∷ is) =
    ap (λ (fs : List Step). entering (children i.0) ++ fs) (pushed_entering is) ∙ sym (entering_append (last_first is) (children i.0))

pub known_at : (b : List InstrSeq) (k : ℕ) (d : InstrSeq) → k < length b → slice_get b k ≡ Some (get_or b k d)
known_at [] k d l = absurd (omega arith)
known_at (s ∷ b) zero d l = refl
known_at (s ∷ b) (suc k) d l = known_at b k d (omega arith)

pub held_keep : (b : List InstrSeq) (k : ℕ) (d t : InstrSeq) → k < length b → held_by t ≡ held_by (get_or b k d) → map held_by (slice_set b k t) ≡ map held_by b
held_keep [] k d t l e = absurd (omega arith)
held_keep (s ∷ b) zero d t l e = ap (λ (ks : List ℕ). ks ∷ map held_by b) e
held_keep (s ∷ b) (suc k) d t l e = ap (λ (kss : List (List ℕ)). held_by s ∷ kss) (held_keep b k d t (omega arith) e)

module _ (b : List InstrSeq) (j k : ℕ) (d t : InstrSeq) (e : j ≡ k) (l : k < length b) where
  pub visited_at : {V : Type 0} (step : V → Event → Event → V → Type 0) (v w : V) → SeqChanged step v (get_or b j d) w t → SeqVisited step (v, b) k (w, slice_set b j t)
  visited_at step v w h =
      let F : ℕ → Type 0 = λ i. SeqChanged step v (get_or b i d) w t in
      record { seq = get_or b k d; changed_seq = t; known = known_at b k d l; changed = subst F e h; stored = ap (λ (i : ℕ). slice_set b i t) e }

  pub held_at : held_by t ≡ held_by (get_or b j d) → map held_by (slice_set b j t) ≡ map held_by b
  held_at h = held_keep b j d t (omega (arith, l, e)) h

  pub waits_at : (fs gs : List Step) (is : List (Instr × InstrLocId)) → gs ≡ fs ++ pushed is → is ≡ t.instrs.items → held_by t ≡ held_by (get_or b j d) → (s : InstrSeq) → slice_get b k ≡ Some s → gs ≡ fs ++ entering (held_by s)
  waits_at fs gs is p q h s g =
      let same : Some (get_or b j d) ≡ Some s = ap (λ (i : ℕ). Some (get_or b i d)) e ∙ sym (known_at b k d l) ∙ g in
      let seq : get_or b j d ≡ s = cc in
      let items = pushed_entering is ∙ ap (λ (xs : List (Instr × InstrLocId)). entering (last_first xs)) q in
      p ∙ ap (λ (hs : List Step). fs ++ hs) (items ∙ ap entering h ∙ ap (λ (u : InstrSeq). entering (held_by u)) seq)

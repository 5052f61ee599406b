-- The walk of a body, which begins behind what its block type names.
use Rattle.std.proofs.Common.{ℕ, ◌≡◌, List, [], ◌∷◌, ◌++◌, Option, Some, refl, sym, ap, subst, ◌∙◌}
use Rattle.std.specs.Prelude.{slice_get}
use Rattle.std.specs.List.{FoldsTo}
use Rattle.walrus_instr.specs.declared.seq.InstrSeq.{InstrSeq}
use Rattle.walrus_walks.specs.declared.steps.Step.{Step}
use Rattle.walrus_walks.specs.declared.steps.Step.TheVariants.{Resume}
use Rattle.walrus_walks.specs.Events.{Event, StartOf, EndOf}
use Rattle.walrus_walks.specs.Fronts.{FoldsFront}
use Rattle.walrus_walks.specs.Walk.{of_items, walk, body_walk}
use Rattle.walrus_walks.specs.Steps.{rest_of, left}

pub body_at : (b : List InstrSeq) (k : ℕ) (s : InstrSeq) → slice_get b k ≡ Some s → body_walk b k ≡ StartOf s ∷ (of_items (walk b) s.instrs.items ++ EndOf s ∷ [])
body_at b k s e = rw e refl

-- the start was told, and what is left is the rest
module _ {V : Type 0} (step : V → Event → V → Type 0) (b : List InstrSeq) (k : ℕ) (s : InstrSeq) (known : slice_get b k ≡ Some s) (v u : V) (starts : step v (StartOf s) u) (fs : List Step) (is : fs ≡ Resume k 0 ∷ []) where
  body_begun : body_walk b k ≡ StartOf s ∷ left b fs
  body_begun = body_at b k s known ∙ ap (λ (es : List Event). StartOf s ∷ es) (sym (ap (left b) is ∙ ap (λ (o : Option InstrSeq). rest_of b o 0) known))

  pub body_told : (w : V) → FoldsTo step u (left b fs) w → FoldsTo step v (body_walk b k) w
  body_told w h = let F : List Event → Type 0 = λ es. FoldsTo step v es w in subst F (sym body_begun) (u, starts, h)

  pub body_part : (w : V) → FoldsFront step u (left b fs) w → FoldsFront step v (body_walk b k) w
  body_part w p = record { part = StartOf s ∷ p.part; rest = p.rest; splits = body_begun ∙ ap (λ (es : List Event). StartOf s ∷ es) p.splits; folds = (u, starts, p.folds) }

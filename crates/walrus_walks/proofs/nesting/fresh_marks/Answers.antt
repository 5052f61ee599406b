use Rattle.std.proofs.Common.{◌≡◌, ℕ, length, ◌∷◌, [], List, subst, sym, arith, ap, length-append}
use Rattle.walrus_walks.specs.declared.nesting.Mark.{Mark}
use Rattle.walrus_walks.specs.declared.nesting.Mark.TheVariants.{Fresh}
use Rattle.walrus_walks.specs.Checks.{mark_at}
use Rattle.walrus_walks.proofs.Transitions.{fresh_more}
use Rattle.walrus_walks.proofs.nesting.fresh_marks.Goals as goal

pub loop-index-preserved : goal.loop-index-preserved
loop-index-preserved c =
    let items = c.in_ok-push.ensures.items in
    let ms = c.loop-index.marks.items in
    let F : List Mark → Type 0 = λ ns. (k : ℕ) → mark_at ns k ≡ Fresh in
    record {
      fresh = subst F (sym items) (fresh_more ms c.loop-index.invariant.fresh);
      sized = omega (arith, ap length items, length-append ms (Fresh ∷ []), c.loop-index.invariant.sized);
    }

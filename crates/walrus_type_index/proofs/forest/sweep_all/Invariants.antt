use Rattle.std.proofs.Common.{ℕ, List, not, filter}
use Rattle.walrus_type_index.specs.Places.{Hashed}
use Rattle.walrus_type_index.specs.Ordered.{is_marked}
use Rattle.walrus_type_index.specs.Directory.{changed_to}
use Rattle.walrus_type_index.specs.Flat.{slots}
use Rattle.walrus_type_index.specs.Forest.{AreTrees}
use Rattle.walrus_type_index.proofs.forest.sweep_all.Given as goal

abbrev pub invariant-loop-place : goal.invariant-loop-place
invariant-loop-place l =
    (top : ℕ) (trees : List (List Hashed)) (last : List Hashed) → AreTrees (slots l.fn.nodes) l.fn.tops top trees last
    → AreTrees (slots l.nodes) l.tops top (changed_to (filter (λ x. not (is_marked l.marks x.id))) l.place trees) last

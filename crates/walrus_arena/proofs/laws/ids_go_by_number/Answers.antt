use Rattle.std.specs.Prelude.{nat_eq}
use Rattle.std.specs.Ordering.{nat_cmp}
use Rattle.std.proofs.Math.Bool.{and-true}
use Rattle.walrus_arena.proofs.LawLemmas.{then-equal}
use Rattle.walrus_arena.proofs.laws.ids_go_by_number.Goals as goal

pub returns-clause-equal : goal.returns-clause-equal
returns-clause-equal g c = λ a b. and-true (nat_eq a b)

pub returns-clause-ordered : goal.returns-clause-ordered
returns-clause-ordered g c = λ a b. then-equal (nat_cmp a b)

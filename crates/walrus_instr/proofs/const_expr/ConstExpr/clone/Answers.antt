use Rattle.std.proofs.Common.{refl}
use Rattle.std.proofs.lemmas.List.Elements.{same_from_all_zip}
use Rattle.walrus_instr.proofs.const_expr.ConstExpr.clone.Goals as goal

pub returns-in_ok-clone-in-Extended : goal.returns-in_ok-clone-in-Extended
returns-in_ok-clone-in-Extended c = rw c.in-Extended.is (c.in_ok-clone-in-Extended.field-0, refl, same_from_all_zip _ _ _ c.in_ok-clone-in-Extended.ensures.cases.0 (λ x y e. e))

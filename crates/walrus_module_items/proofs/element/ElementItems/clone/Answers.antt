use Rattle.std.proofs.Common.{refl, rules}
use Rattle.std.proofs.lemmas.List.Elements.{same_from_all_zip}
use Rattle.walrus_module_items.proofs.element.ElementItems.clone.Goals as goal

pub returns-in_ok-clone-in-Functions : goal.returns-in_ok-clone-in-Functions
returns-in_ok-clone-in-Functions c = rw c.in-Functions.is (c.in_ok-clone-in-Functions.field-0, refl, search (rules, same_from_all_zip))

pub returns-in_ok-clone_exprs-in-Expressions : goal.returns-in_ok-clone_exprs-in-Expressions
returns-in_ok-clone_exprs-in-Expressions c =
    rw c.in-Expressions.is (c.in_ok-clone_exprs-in-Expressions.field-0, refl, c.in_ok-clone_exprs-in-Expressions.ensures)

use Rattle.std.proofs.Common.{List, ℕ, subst}
use Rattle.std.specs.Prelude.{Contains}
use Rattle.walrus_body_names.proofs.Same.{there}
use Rattle.walrus_body_names.proofs.facts.gather.Goals as goal

pub returns-then-is_there-clause-told : goal.returns-then-is_there-clause-told
returns-then-is_there-clause-told c = there c.args.found.now.items c.args.id (subst (λ (z : List ℕ). Contains z c.args.id) c.as_slice.ensures.value c.if-is_there.ensures)

use Rattle.std.proofs.Common.{◌∙◌, ℕ, Option, sym, subst}
use Rattle.walrus_type_index.specs.Ordered.{IsHeld}
use Rattle.walrus_type_index.specs.Places.{kinds_in}
use Rattle.walrus_type_index.proofs.lent.settle.Goals as goal

pub enter-requires : goal.enter-requires
enter-requires c = subst (λ (l : Option ℕ). IsHeld l c.args.index.now (kinds_in c.args.types.now.slots)) (sym c.take.ensures.value ∙ c.in-Some.is) c.requires

use Rattle.std.proofs.Common.{Decides, IfOk, MatchOption, Option, sym, subst}
use Rattle.walrus_used.specs.walrus_module.walrus_module_items.declared.function.Function.{Function}
use Rattle.walrus_refusals.specs.Written.{KindHasNone}
use Rattle.walrus_refusals.proofs.written.function_has_none.Goals as goal

pub returns : goal.returns
returns c = subst (λ (o : Option Function). IfOk c.kind_has_none.result (λ ok. Decides ok (MatchOption o (Unit {0}) (λ f. KindHasNone f.kind)))) (sym c.get.ensures) c.kind_has_none.ensures

use Rattle.walrus_collections.specs.walrus_module_items.declared.function.FunctionKind.TheVariants as kinds
use Rattle.walrus_functions_into.proofs.AddLemmas.{replaced}
use Rattle.walrus_functions_into.proofs.functions.add_bodiless.Goals as goal

pub returns-clause-added : goal.returns-clause-added
returns-clause-added c =
    replaced (λ item. record item { kind = kinds.Uninitialized c.args.ty }) c.args.functions.now c.add_import.new.self c.give_kind.new.functions c.in_ok-id.id _ c.in_ok-id.ensures.id c.in_ok-id.ensures.added c.give_kind.ensures

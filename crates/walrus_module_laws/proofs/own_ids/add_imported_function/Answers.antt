use Rattle.walrus_module_items.specs.declared.function.Function.{Function}
use Rattle.walrus_module_laws.proofs.OwnIdLemmas.{add_edits, if_ok, if_both}
use Rattle.walrus_module_laws.proofs.own_ids.add_imported_function.Goals as goal

pub returns : goal.returns
returns c =
    add_edits (λ (x : Function). x.id) c.args.functions.now c.add_import.new.self c.add_import.result (if_ok c.add_import.result _ _ (if_both c.add_import.result _ _ c.add_import.ensures.id c.add_import.ensures.added) (λ a p. (_, p.0, p.1))) c.add_import.ensures.refused

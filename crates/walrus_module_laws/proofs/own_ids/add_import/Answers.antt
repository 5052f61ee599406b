use Rattle.walrus_module_items.specs.declared.import.Import.{Import}
use Rattle.walrus_module_laws.proofs.OwnIdLemmas.{add_edits, on_ok}
use Rattle.walrus_module_laws.proofs.own_ids.add_import.Goals as goal

pub returns : goal.returns
returns c =
    add_edits (λ (x : Import). x.id) c.args.imports.now c.add.new.self c.add.result (on_ok c.add.result _ _ c.add.ensures.added (λ p. (p.2.0, p.2.1.id_is, p.2.2))) c.add.ensures.refused

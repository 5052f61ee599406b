use Rattle.std.proofs.Common.{◌∙◌}
use Rattle.walrus_module_items.specs.declared.memory.Memory.{Memory}
use Rattle.walrus_module_laws.proofs.OwnIdLemmas.{add_edits, if_ok, if_both}
use Rattle.walrus_module_laws.proofs.own_ids.add_memory.Goals as goal

pub returns : goal.returns
returns c =
    add_edits (λ (x : Memory). x.id) c.args.memories.now c.add_local.new.self c.add_local.result (if_ok c.add_local.result _ _ (if_both c.add_local.result _ _ c.add_local.ensures.id c.add_local.ensures.added) (λ a p. (p.1.0, p.1.1.id_is ∙ p.0, p.1.2))) c.add_local.ensures.refused

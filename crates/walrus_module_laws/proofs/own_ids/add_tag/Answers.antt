use Rattle.walrus_module_items.specs.declared.tag.Tag.{Tag}
use Rattle.walrus_module_laws.proofs.OwnIdLemmas.{add_edits, if_ok, if_both}
use Rattle.walrus_module_laws.proofs.own_ids.add_tag.Goals as goal

pub returns : goal.returns
returns c =
    add_edits (λ (x : Tag). x.id) c.args.tags.now c.add.new.self c.add.result (if_ok c.add.result _ _ (if_both c.add.result _ _ c.add.ensures.id c.add.ensures.added) (λ a p. (_, p.0, p.1))) c.add.ensures.refused

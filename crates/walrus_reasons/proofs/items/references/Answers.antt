use Rattle.walrus_used.specs.walrus_module.Parts.{parts}
use Rattle.walrus_used.specs.walrus_references.References.{Refers}
use Rattle.walrus_reasons.proofs.AddedLemmas.{all_added}
use Rattle.walrus_reasons.proofs.items.references.Goals as goal

pub returns : goal.returns
returns g c = all_added (Refers (parts c.args.input.now) c.args.item) c.new-named.result.items c.add_references.new.named.items c.new-named.ensures.items c.in_ok-add_references.ensures

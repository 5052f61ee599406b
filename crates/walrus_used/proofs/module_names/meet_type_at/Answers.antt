use Rattle.walrus_references.specs.walrus_module.Parts.{parts}
use Rattle.walrus_used.proofs.ModuleLemmas.{type_meets}
use Rattle.walrus_used.proofs.module_names.meet_type_at.Goals as goal

pub returns : goal.returns
returns g c = type_meets (parts c.args.input.now) c.args.id c.args.marks.now c.meet_type.new.marks c.meet_group_of.new.marks c.in_ok-meet_type.ensures c.meet_group_of.ensures

use Rattle.walrus_marks.specs.Marks.{lists_of}
use Rattle.walrus_references.specs.walrus_module.Parts.{parts}
use Rattle.walrus_used.proofs.ModuleLemmas.{at_type}
use Rattle.walrus_used.proofs.module_names.ModuleNamesPartNames.meet_named.Goals as goal

pub returns-in_ok-meet_type_at-in-Type : goal.returns-in_ok-meet_type_at-in-Type
returns-in_ok-meet_type_at-in-Type g c =
    at_type (parts c.args.self.now.input.now) (lists_of c.args.self.now.active.now) c.args.item c.id.result c.args.marks.now c.meet_type_at.new.marks c.in-Type.is c.id.ensures c.in_ok-meet_type_at-in-Type.ensures

use Rattle.walrus_references.specs.walrus_module.Parts.{parts}
use Rattle.walrus_used.proofs.RootLemmas.{all_parts}
use Rattle.walrus_used.proofs.module_names.ModuleNamesPartNames.part_count.Goals as goal

pub returns : goal.returns
returns g c = all_parts (parts c.args.self.now.input.now) c.args.self.now.pushed.now c.args.self.now.rooted.now c.part_count.result c.part_count.ensures

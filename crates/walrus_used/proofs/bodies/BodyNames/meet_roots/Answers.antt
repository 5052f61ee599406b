use Rattle.std.proofs.Common.{[], ◌∷◌}
use Rattle.wasm_formats.specs.declared.fault.Space.TheVariants as spaces
use Rattle.walrus_roots.specs.Items.{item}
use Rattle.walrus_used.proofs.MeetsLemmas.{meets_list}
use Rattle.walrus_used.proofs.bodies.BodyNames.meet_roots.Goals as goal

pub returns : goal.returns
returns c = meets_list (item spaces.Label 0 ∷ []) c.args.marks.now c.meet.new.self c.meet.ensures

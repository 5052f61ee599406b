use Rattle.std.proofs.Common.{◌≡◌, ◌++◌, drop, map}
use Rattle.walrus_body_text.specs.Doing.{label_by}
use Rattle.walrus_body_writer.proofs.operators.labels_of.Given as goal

abbrev pub invariant-loop-id : goal.invariant-loop-id
invariant-loop-id l =
    l.labels.items ++ map (label_by l.depths.depths.items l.depths.height) (drop l.id-index l.ids) ≡ map (label_by l.depths.depths.items l.depths.height) l.ids

use Rattle.std.proofs.Common.{◌≡◌, ◌++◌, drop}
use Rattle.walrus_body_writer.specs.Outputs.{moved}
use Rattle.walrus_body_writer.proofs.Outs.{Fronts}
use Rattle.walrus_body_writer.proofs.output.append_places.Given as goal

abbrev pub invariant-loop-place : goal.invariant-loop-place
invariant-loop-place l = record {
  put : l.places.items ++ moved l.by (drop l.place-index l.more) ≡ l.fn.places.items ++ moved l.by l.more;
  front : Fronts l.fn.places.items l.places.items;
}

use Rattle.std.proofs.Common.{◌≡◌, drop}
use Rattle.walrus_type_index.specs.Hashes.{fields_hash}
use Rattle.walrus_type_index.proofs.hash.fields_hash.Given as goal

abbrev pub invariant-loop-field : goal.invariant-loop-field
invariant-loop-field l = fields_hash l.hash (drop l.field-index l.fields) ≡ fields_hash l.start l.fields

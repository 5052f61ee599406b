use Rattle.std.proofs.Common.{◌≡◌, ◌++◌, drop}
use Rattle.walrus_customs.specs.Producers.{fields_of}
use Rattle.walrus_customs.proofs.producers.copies.Given as goal

abbrev pub invariant-loop-field : goal.invariant-loop-field
invariant-loop-field l = fields_of l.copies.items ++ fields_of (drop l.field-index l.fn.fields) ≡ fields_of l.fn.fields

use Rattle.std.proofs.Common.{◌≡◌, fold, take}
use Rattle.walrus_export_reader.specs.Keys.{mix_byte}
use Rattle.walrus_export_reader.proofs.repeats.mix.Given as goal

abbrev pub invariant-loop-byte : goal.invariant-loop-byte
invariant-loop-byte l = l.mixed ≡ fold mix_byte 0xcbf29ce484222325 (take l.byte-index l.byte-items)

use Rattle.std.proofs.Common.{◌≡◌, map, take}
use Rattle.walrus_forms.specs.Records.{record_kind}
use Rattle.walrus_forms.proofs.record.GroupRecord.clone.Given as goal

abbrev pub invariant-loop-ty : goal.invariant-loop-ty
invariant-loop-ty l = map record_kind l.types.items ≡ map record_kind (take l.ty-index l.self.types.items)

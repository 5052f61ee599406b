use Rattle.std.proofs.Common.{◌≡◌, map, take}
use Rattle.walrus_forms.specs.Records.{value_of}
use Rattle.walrus_forms.specs.Renaming.{renamed_value}
use Rattle.walrus_forms.specs.Renaming.{index_at}
use Rattle.walrus_forms.proofs.describe.value_records.Given as goal

abbrev pub invariant-loop-value : goal.invariant-loop-value
invariant-loop-value l = map value_of l.records.items ≡ map (renamed_value (index_at l.indices)) (take l.value-index l.values)

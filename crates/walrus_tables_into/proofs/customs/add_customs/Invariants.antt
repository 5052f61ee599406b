use Rattle.std.proofs.Common.{take}
use Rattle.walrus_sections_into.specs.Slots.{Filled}
use Rattle.walrus_tables_into.specs.Customs.{IsCustomOf, plain}
use Rattle.walrus_tables_into.proofs.customs.add_customs.Given as goal

abbrev pub invariant-loop-custom : goal.invariant-loop-custom
invariant-loop-custom g l = Filled IsCustomOf (plain (take l.custom-index l.customs)) l.fn.into.slots l.into.slots

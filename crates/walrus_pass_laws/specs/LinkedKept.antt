-- What dropping keeps of a linked module.
use Rattle.std.specs.Prelude.{List}
use Rattle.walrus_passes.specs.walrus_refusals.walrus_used.walrus_module.Parts.{Module}
use Rattle.walrus_roots.specs.declared.item.Item.{Item}
use Rattle.walrus_linked.specs.Linked.{IsLinked}
use Rattle.walrus_passes.specs.Part.{IsKeptPart}

-- the kept part of a linked module is linked
abbrev pub GcKeepsLinked : Type 0
GcKeepsLinked = (m n : Module) (pushed : List Item) → IsLinked m → IsKeptPart m pushed n → IsLinked n

-- What custom sections answer, by what their values say. Want of memory may stand for any answer.
use Rattle.std.specs.Prelude.{◌≡◌, ℕ, List, ◌++◌, Option, Some, None}
use Rattle.std.specs.declared.result.Result.{Result}
use Rattle.std.specs.declared.result.Result.TheVariants.{Ok, Err}
use Rattle.std.specs.declared.vec.Vec.{Vec}
use Rattle.std.specs.declared.alloc.Global.{Global}
use Rattle.walrus_roots.specs.declared.item.Item.{Item}
use Rattle.walrus_sections.specs.declared.fault.SectionFault.{SectionFault}
use Rattle.walrus_sections.specs.declared.fault.SectionFault.TheVariants as faults

-- the value, or a refusal exactly where there is none
abbrev pub Answers : {T : Type 0} → Option T → Result T SectionFault → Type 0
Answers said (Ok x) = said ≡ Some x
Answers said (Err faults.Refused) = said ≡ None
Answers said (Err faults.Memory) = Unit {0}

-- bytes
abbrev pub Gives : Option (List ℕ) → Result (Vec ℕ Global) SectionFault → Type 0
Gives said (Ok bytes) = said ≡ Some bytes.items
Gives said (Err faults.Refused) = said ≡ None
Gives said (Err faults.Memory) = Unit {0}

-- items, put behind those that stand there
abbrev pub Pushes : Option (List Item) → List Item → List Item → Result (Unit {0}) SectionFault → Type 0
Pushes said old new (Ok _) = (items : List Item) × (said ≡ Some items) × (new ≡ old ++ items)
Pushes said old new (Err faults.Refused) = said ≡ None
Pushes said old new (Err faults.Memory) = Unit {0}

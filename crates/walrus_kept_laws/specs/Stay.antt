-- The part of a module that a plan writes is that of what is left of it, where the plan lists nothing that was deleted.
use Rattle.std.specs.Prelude.{◌≡◌, List}
use Rattle.walrus_module.specs.Parts.{Module}
use Rattle.walrus_roots.specs.declared.item.Item.{Item}
use Rattle.walrus_passes.specs.Part.{IsKeptPart}
use Rattle.walrus_passes.specs.walrus_refusals.walrus_used.walrus_references.Kept.{Kept}
use Rattle.walrus_parse_gc_laws.specs.Numbered.{numbered}
use Rattle.wasm_part.specs.Agree.{AgreeOn}
use Rattle.wasm_part.specs.Kept.{ListsItems}
use Rattle.wasm_part.specs.Part.{Plan, part}
use Rattle.walrus_kept_laws.specs.Left.{IsLeft}

-- with locals by their places
abbrev pub NumberedLeft : Type 0
NumberedLeft = (m n : Module) (pushed : List Item) → IsKeptPart m pushed n → IsLeft (Kept m pushed) (numbered m) (numbered n)

pub record PartStays (p : Plan) (m n : Module) : Type 0 where
  pub agree : AgreeOn p (numbered m) (numbered n)
  pub part_is : part p (numbered m) ≡ part p (numbered n)

-- a plan that lists what lives in the kept part of a module, and nothing else, writes of both the same
abbrev pub PartsStay : Type 0
PartsStay = (m n : Module) (pushed : List Item) (p : Plan) → IsKeptPart m pushed n → ListsItems p (numbered n) → PartStays p m n

-- What was written of a module.
use Rattle.std.specs.Prelude.{ℕ, ◌≡◌, List, ◌++◌, Option}
use Rattle.std.specs.List.{AllZip}
use Rattle.walrus_arena.specs.Arena.{entries}
use Rattle.walrus_index_maps.specs.Maps.{Indices}
use Rattle.walrus_index_maps.specs.Views.{indices}
use Rattle.walrus_module.specs.Parts.{parts}
use Rattle.walrus_module.specs.declared.module.Module.{Module}
use Rattle.walrus_module.specs.walrus_collections.LookUps.{local_entries}
use Rattle.walrus_sections.specs.declared.transform.CodeTransform.{CodeTransform}
use Rattle.walrus_types.specs.Table.{Table}
use Rattle.walrus_types.specs.declared.emit.EmittedTypes.{EmittedTypes}
use Rattle.walrus_emit_code.specs.declared.emission.Emission.{Emission}
use Rattle.walrus_emit_numbers.specs.Facts.{AreFacts}
use Rattle.walrus_emit_numbers.specs.Order.{IsOrder}
use Rattle.walrus_emit_numbers.specs.Undeclared.{undeclared_of}
use Rattle.walrus_emit_numbers.specs.declared.facts.BodyFacts.{BodyFacts}
use Rattle.walrus_emit_parts.specs.Due.{written}
use Rattle.walrus_emit.specs.Left.{Declares}
use Rattle.walrus_emit.specs.Places.{Tells}
use Rattle.walrus_emit.specs.Settled.{AreEmitted}
use Rattle.walrus_emit.specs.Whole.{code_begin, locations, numbers, ranges, standard, types, whole, with_bodies}

-- the types of a table stand behind what was there
pub record WroteTypes (t : Table) (old new : List ℕ) : Type 0 where
  pub emitted : EmittedTypes
  pub are : AreEmitted t emitted
  pub wrote : written new ≡ written old ++ types emitted

module _ {B : Type 0} (own_name : B → List ℕ) (contents : B → Indices → Option (List ℕ)) where
  -- it says where code stands that was written of a module in this order
  pub record StandsIn (input : Module B) (facts : List BodyFacts) (order : List ℕ) (emitted : EmittedTypes) (emission : Emission) : Type 0 where
    pub located : emission.locations.items ≡ locations input facts order (numbers input facts order emitted)
    pub ranged : emission.ranges.items ≡ ranges input facts order (numbers input facts order emitted)
    pub begins : emission.code_section_start ≡ code_begin own_name contents input facts order emitted (numbers input facts order emitted)

  -- all but the custom sections that stand behind the others: with these facts, in the order of the bodies
  pub record IsStandard (input : Module B) (facts : List BodyFacts) (emission : Emission) : Type 0 where
    pub order : List ℕ
    pub ordered : IsOrder facts order
    pub emitted : EmittedTypes
    pub types : AreEmitted input.types emitted
    pub numbers_are : indices emission.indices ≡ with_bodies input facts order (numbers input facts order emitted)
    pub bytes_are : written emission.bytes.items ≡ standard own_name contents input facts order emitted (numbers input facts order emitted)
    pub stands : StandsIn input facts order emitted emission

  -- the module as it was, with the functions declared that have to be; its custom sections that stand first were asked before, and the others after they
  -- were told where code stands
  pub record IsWritten (old new : Module B) (bytes : List ℕ) : Type 0 where
    pub facts : List BodyFacts
    pub known : AllZip AreFacts (local_entries (entries old.funcs)) facts
    pub declared : Declares (undeclared_of old facts) (parts old) (parts new)
    pub order : List ℕ
    pub ordered : IsOrder facts order
    pub emitted : EmittedTypes
    pub types : AreEmitted new.types emitted
    pub bytes_are : written bytes ≡ whole own_name contents (record new { customs = old.customs }) facts order emitted new.customs

  -- the same, with where code stands in it
  pub record IsEmitted (old new : Module B) (emission : Emission) : Type 0 where
    pub written : IsWritten old new emission.bytes.items
    pub stands : StandsIn (record new { customs = old.customs }) written.facts written.order written.emitted emission

  -- a transform tells where, in the whole file
  pub record IsTransformed (old new : Module B) (bytes : List ℕ) (transform : CodeTransform) : Type 0 where
    pub written : IsWritten old new bytes
    pub tells : Tells (locations new written.facts written.order (numbers new written.facts written.order written.emitted))
        (ranges new written.facts written.order (numbers new written.facts written.order written.emitted))
        (code_begin own_name contents (record new { customs = old.customs }) written.facts written.order written.emitted (numbers new written.facts written.order written.emitted)) transform

-- What is settled of a module before it is written.
use Rattle.std.specs.Prelude.{map}
use Rattle.walrus_types.specs.Emission.{IsEmission}
use Rattle.walrus_types.specs.Inverse.{AreInverse}
use Rattle.walrus_types.specs.Table.{Table}
use Rattle.walrus_types.specs.declared.emit.EmittedTypes.{EmittedTypes}
use Rattle.walrus_types.specs.walrus_forms.Records.{type_group}

-- the groups in which a table is written, and the types in that order
pub record AreEmitted (t : Table) (types : EmittedTypes) : Type 0 where
  pub groups : IsEmission t (map type_group types.groups.items) types.indices
  pub ids : AreInverse types.ids.items types.indices

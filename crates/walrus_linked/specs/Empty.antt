-- A module without items.
use Rattle.std.specs.Prelude.{◌≡◌, [], None}
use Rattle.walrus_module.specs.Parts.{Module}
use Rattle.walrus_linked.specs.Linked.{IsLinked}

pub record IsEmpty (m : Module) : Type 0 where
  pub imports : m.imports.slots ≡ []
  pub tables : m.tables.slots ≡ []
  pub types : m.types.types ≡ []
  pub groups : m.types.groups ≡ []
  pub funcs : m.funcs.slots ≡ []
  pub globals : m.globals.slots ≡ []
  pub locals : m.locals ≡ []
  pub exports : m.exports.slots ≡ []
  pub memories : m.memories.slots ≡ []
  pub tags : m.tags.slots ≡ []
  pub data_segments : m.data_segments.slots ≡ []
  pub elements : m.elements.slots ≡ []
  pub start : m.start ≡ None

-- a module without items is linked
abbrev pub EmptyIsLinked : Type 0
EmptyIsLinked = (m : Module) → IsEmpty m → IsLinked m

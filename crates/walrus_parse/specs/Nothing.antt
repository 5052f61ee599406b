-- What a module is in which nothing is.
use Rattle.std.specs.Prelude.{◌≡◌, [], None}
use Rattle.walrus_named_bodies.specs.Parsed.{IsEmpty}
use Rattle.walrus_named_bodies.specs.walrus_file_bodies.walrus_items_into.Spaces.{spaces}
use Rattle.walrus_named_bodies.specs.walrus_item_names.walrus_module.declared.module.Module.{Module as Whole}

-- no item, no name, no start function and no producers; its flags aren't looked at
pub record HasNothing {B : Type 0} (m : Whole B) : Type 0 where
  pub empty : IsEmpty (spaces m.types m.imports m.funcs m.tables m.memories m.tags m.globals m.exports m.elements m.data_segments m.customs) m.locals m.name
  pub no_start : m.start ≡ None
  pub no_producers : m.producers ≡ []

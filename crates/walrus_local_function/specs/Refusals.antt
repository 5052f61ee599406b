-- Bodies that are refused.
use Rattle.std.specs.Prelude.{◌≡◌, ◌⊎◌, ℕ, List}
use Rattle.wasm_reader.specs.Cursor.{Cursor}
use Rattle.walrus_index_maps.specs.Maps.{Ids}
use Rattle.walrus_items.specs.declared.local.Local.{Local}
use Rattle.walrus_body_names.specs.walrus_body_env.declared.error.BodyError.{BodyError}
use Rattle.walrus_body_names.specs.walrus_body_env.declared.error.BodyError.TheVariants.{Memory}
use Rattle.walrus_function_parser.specs.walrus_body_locals.Locals.{Leaves}
use Rattle.walrus_function_parser.specs.walrus_body_rules.Sights.{Sight}
use Rattle.walrus_function_parser.specs.Parsed.{Telling, IsRefused, IsCause}

-- a body is refused so. While it was read, the next indices of its function named the locals that were added, all or all but the last: in
-- this map
pub record IsRefusal {V : Type 0} (s : Sight) (told : Telling V) (params code : ℕ) (old : Cursor) (ls ms : List Local) (v w : V) (e : BodyError) : Type 0 where
  pub met : Ids
  pub left : Leaves s.function ls ms s.ids met
  pub refused : IsRefused s told params code old ls ms met v w e
  pub stops : (e ≡ Memory) ⊎ IsCause s told params code old met e

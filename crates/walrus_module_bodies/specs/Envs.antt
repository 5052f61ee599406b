-- A module around its bodies, while its types grow.
use Rattle.std.specs.Prelude.{◌≡◌}
use Rattle.walrus_module_env.specs.walrus_body_parser.walrus_body_stack.walrus_instr.walrus_types.Table.{Table}
use Rattle.walrus_module_env.specs.declared.env.ModuleEnv.{ModuleEnv}
use Rattle.walrus_module_bodies.specs.declared.file.FileEnv.{FileEnv}

-- what bodies ask of the module, beside this table of types
pub record IsEnv (file : FileEnv) (t : Table) (e : ModuleEnv) : Type 0 where
  pub types_are : e.types.now ≡ t
  pub tags_are : e.tags.now ≡ file.tags.now
  pub memories_are : e.memories.now ≡ file.memories.now
  pub own_are : e.own_types ≡ file.own_types
  pub counted_is : e.has_data_count ≡ file.has_data_count
  pub begins : e.code_start ≡ file.code_start

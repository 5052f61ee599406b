-- The types of a module that was read name none past their own groups.
use Rattle.std.specs.Prelude.{ℕ, ◌<◌, List, All}
use Rattle.walrus_config.specs.declared.config.ModuleConfig.{ModuleConfig}
use Rattle.walrus_parse_laws.specs.walrus_meaning.walrus_linked.walrus_body_writer.walrus_pairing.walrus_index_maps.Maps.{Ids}
use Rattle.walrus_parse_laws.specs.walrus_meaning.walrus_linked.walrus_module.declared.module.Module.{Module as Whole}
use Rattle.walrus_parse_laws.specs.walrus_named_bodies.Parsed.{IsReadAs}
use Rattle.walrus_pass_laws.specs.walrus_refusals.Written.{NamesNoLater}

-- each type names types that stand no later, or that are members of its group
abbrev pub ReadTypesStayInGroups : Type 0 → Type 0
ReadTypesStayInGroups B = (config : ModuleConfig) (bytes : List ℕ) (m : Whole B) (found : Ids) → All (λ b. b < 256) bytes → IsReadAs config bytes m found → (id : ℕ) → NamesNoLater m.types id

-- The names that a module has that was read are the last that its file gives to its items (Core Specification, appendix Custom Sections: name section).
use Rattle.std.specs.Prelude.{ℕ, ◌≡◌, false, IsSome}
use Rattle.wasm_formats.specs.declared.fault.Space.{Space}
use Rattle.wasm_formats.specs.declared.fault.Space.TheVariants as spaces
use Rattle.wasm_grammar.specs.Modules as grammar
use Rattle.wasm_name_payloads.specs.Names.{AnItem, TheModule}
use Rattle.wasm_rewritten.specs.Customs.{name_read}
use Rattle.walrus_arena.specs.Arena.{IsLive}
use Rattle.walrus_config.specs.declared.config.ModuleConfig.{ModuleConfig}
use Rattle.walrus_index_maps.specs.Maps.{Ids}
use Rattle.walrus_types.specs.Table.{type_at}
use Rattle.walrus_module.specs.Parts.{Module, parts}
use Rattle.walrus_module.specs.declared.module.Module.{Module as Whole}
use Rattle.walrus_emit_customs.specs.Names.{text}
use Rattle.walrus_parse_laws.specs.Means.{MeansFile}
use Rattle.walrus_customs_laws.specs.Items.{name_in}

-- an item of the space lives under the id
abbrev pub LivesIn : Module → Space → ℕ → Type 0
LivesIn m spaces.«Type» id = IsSome (type_at m.types id)
LivesIn m spaces.Function id = IsLive m.funcs id
LivesIn m spaces.Table id = IsLive m.tables id
LivesIn m spaces.Memory id = IsLive m.memories id
LivesIn m spaces.Global id = IsLive m.globals id
LivesIn m spaces.Element id = IsLive m.elements id
LivesIn m spaces.Data id = IsLive m.data_segments id
LivesIn m spaces.Tag id = IsLive m.tags id
LivesIn m spaces.Local id = ⊥
LivesIn m spaces.Label id = ⊥

-- each has the last name that was read for it, or none; the id of a type stands for all types that have it
pub record NamesAreLast (file : grammar.Module) (m : Module) : Type 0 where
  pub own : text m.name ≡ name_read file TheModule
  pub items : (space : Space) (id : ℕ) → LivesIn m space id → name_in m space id ≡ name_read file (AnItem (record { space = space; number = id }))

-- so it is where synthetic names aren't asked for
abbrev pub ReadNamesAreLast : Type 0 → Type 0
ReadNamesAreLast B = (config : ModuleConfig) (file : grammar.Module) (m : Whole B) (found : Ids) → MeansFile config file m found
    → config.generate_synthetic_names_for_anonymous_items ≡ false → NamesAreLast file (parts m)

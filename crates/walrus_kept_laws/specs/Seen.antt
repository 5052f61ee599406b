-- A module that was read: references look at the same in memory, by ids, and in its file, by places.
use Rattle.std.specs.Prelude.{ℕ, ◌<◌, Bool, List, [], All}
use Rattle.wasm_grammar.specs.Modules as grammar
use Rattle.wasm_modules.specs.Modules.{Reads}
use Rattle.wasm_part.specs.Seen.{seen_as}
use Rattle.walrus_config.specs.declared.config.ModuleConfig.{ModuleConfig}
use Rattle.walrus_index_maps.specs.Maps.{Ids}
use Rattle.walrus_types.specs.TypeLaws.{AreGrouped}
use Rattle.walrus_module.specs.declared.module.Module.{Module as Whole}
use Rattle.walrus_module.specs.Parts.{parts}
use Rattle.walrus_meaning.specs.Meaning.{type_ids}
use Rattle.walrus_named_bodies.specs.Parsed.{IsReadAs, read_features}
use Rattle.walrus_parse_laws.specs.Means.{MeansFile}
use Rattle.walrus_pass_laws.specs.Meant.{meant}
use Rattle.walrus_parse_gc_laws.specs.Numbered.{numbered}
use Rattle.walrus_kept_laws.specs.Alike.{KeptAlike}

-- what is kept of what it means is what is kept of it as it stands in a file, each type at its place among those that are written
abbrev pub SeenAsMeant : Type 0 → Type 0
SeenAsMeant B = (config : ModuleConfig) (bytes : List ℕ) (file : grammar.Module) (m : Whole B) (found : Ids) → All (λ b. b < 256) bytes → IsReadAs config bytes m found
    → Reads (read_features config) bytes file → MeansFile config file m found → AreGrouped m.types → (keep : Bool) → KeptAlike (type_ids m.types) (meant (parts m)) (seen_as (read_features config) (numbered (parts m))) keep []

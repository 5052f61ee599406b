-- A module that was read means a module that meets the rules.
use Rattle.std.specs.Prelude.{ℕ, ◌≡◌, ◌<◌, true, false, List, All, map}
use Rattle.wasm_merged_modules.specs.wasm_normal_modules.wasm_ruled_renamed.wasm_ruled_normal.wasm_ruled_modules.wasm_module_rules.wasm_modules.wasm_body_grammar.wasm_grammar.Modules as grammar
use Rattle.wasm_merged_modules.specs.wasm_normal_modules.wasm_ruled_renamed.wasm_ruled_normal.wasm_normal_form.wasm_operators.wasm_features.declared.WasmFeatures.{WasmFeatures}
use Rattle.wasm_merged_modules.specs.wasm_normal_modules.wasm_ruled_renamed.wasm_ruled_normal.wasm_ruled_modules.wasm_module_rules.Linked.{Each}
use Rattle.wasm_merged_modules.specs.wasm_normal_modules.wasm_ruled_renamed.wasm_ruled_normal.wasm_ruled_modules.Rules.{around_bodies}
use Rattle.wasm_merged_modules.specs.wasm_normal_modules.Modules.{MeetsRules, OriginPicked}
use Rattle.wasm_merged_modules.specs.Merged.{merged_module, single}
use Rattle.walrus_config.specs.declared.config.ModuleConfig.{ModuleConfig}
use Rattle.walrus_parse_laws.specs.walrus_meaning.walrus_body_writer.walrus_pairing.walrus_index_maps.Maps.{Ids}
use Rattle.walrus_parse_laws.specs.Meaning.{own_custom}
use Rattle.walrus_parse_laws.specs.walrus_meaning.Meaning.{slots_of}
use Rattle.walrus_parse_laws.specs.walrus_named_bodies.walrus_item_names.walrus_module.Parts.{parts}
use Rattle.walrus_parse_laws.specs.walrus_named_bodies.walrus_item_names.walrus_module.declared.module.Module.{Module as Whole}
use Rattle.walrus_parse_laws.specs.walrus_named_bodies.Parsed.{IsReadAs, read_features}
use Rattle.walrus_parse_laws.specs.Meant.{place_of}
use Rattle.walrus_parse_laws.specs.Means.{AreSized, MeansFile, handler_kinds, is_payload}
use Rattle.walrus_parse_gc_laws.specs.Numbered.{numbered}

-- what a module means that was read from a file is the normal form of the file's module with its types merged, and the types of handlers behind them: taken
-- to have a data count section, which a module doesn't tell
abbrev pub MeaningsAreMerged : Type 0 → Type 0
MeaningsAreMerged B = (config : ModuleConfig) (file : grammar.Module) (m : Whole B) (found : Ids) → MeansFile config file m found
    → numbered (parts m) ≡ merged_module place_of (read_features config) true (map single (handler_kinds file)) file

-- what a module means meets the rules, but for how many items a module may have (Core Specification, valid modules), and each block type there is its own pick;
-- sizes with addresses of 32 bits are below 2^32; no custom section is called `name` or `producers`, whatever boxes would give. The limit on the locals of a function,
-- 50,000, stays among the rules. An index there is an id, so this is for modules as they were read: nothing is deleted there, and the types of the file's groups have the
-- ids 0, 1 and on
pub record MeansRuled {B : Type 0} (features : WasmFeatures) (m : Whole B) : Type 0 where
  pub rules : MeetsRules features true (numbered (parts m))
  pub picked : Each (λ (f : grammar.Function). OriginPicked (around_bodies features true (numbered (parts m))) f.origin) (numbered (parts m)).functions
  pub sized : AreSized (numbered (parts m))
  pub customs : (given : B → grammar.Custom) → Each (λ (c : grammar.Custom). is_payload c ≡ false) (slots_of (own_custom given) m.customs)

-- so is each module that was read
abbrev pub ReadModulesMeanRuledOnes : Type 0 → Type 0
ReadModulesMeanRuledOnes B = (config : ModuleConfig) (bytes : List ℕ) (m : Whole B) (found : Ids) → All (λ b. b < 256) bytes → IsReadAs config bytes m found → MeansRuled (read_features config) m

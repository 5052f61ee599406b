-- The flags of a module: what they are at first, and which features are read under them.
use Rattle.std.specs.Prelude.{true, false, List, [], ◌∷◌, ◌++◌, if◌then◌else◌}
use Rattle.wasm_features.specs.Features.{Feature, LegacyExceptions, SharedEverythingThreads, WideArithmetic}
use Rattle.wasm_features.specs.Sets.{default_names}
use Rattle.walrus_config.specs.declared.config.ModuleConfig.{ModuleConfig}

-- names, strict validation, producers and the legacy exceptions, and no other flag
abbrev pub default_config : ModuleConfig
default_config = record {
  generate_dwarf = false;
  generate_name_section = true;
  generate_synthetic_names_for_anonymous_items = false;
  strict_validate = true;
  generate_producers_section = true;
  only_stable_features = false;
  legacy_exceptions = true;
  preserve_code_transform = false;
  shared_types = false;
  keep_segments = false;
}

-- the default features, the legacy exceptions unless they are switched off, shared types where they are asked for, and wide
-- arithmetic unless stable features alone are wanted
abbrev pub feature_names : ModuleConfig → List Feature
feature_names config =
    (if config.only_stable_features then [] else WideArithmetic ∷ []) ++ ((if config.shared_types then SharedEverythingThreads ∷ [] else [])
    ++ ((if config.legacy_exceptions then LegacyExceptions ∷ [] else []) ++ default_names))

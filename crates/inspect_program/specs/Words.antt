-- What the flags choose.
use Rattle.std.specs.Prelude.{Bool, not}
use Rattle.walrus_config.specs.Config.{default_config}
use Rattle.walrus_config.specs.declared.config.ModuleConfig.{ModuleConfig}

-- stable features alone where that was asked for, and the legacy exceptions unless they were switched off
abbrev pub config_of : Bool → Bool → ModuleConfig
config_of stable no_legacy = record default_config { only_stable_features = stable; legacy_exceptions = not no_legacy }

-- What is said of a rewriting: which inputs are accepted, and why others are refused.
use Rattle.std.specs.Prelude.{ℕ, ◌≡◌, ◌⊎◌, true, false, List}
use Rattle.walrus_config.specs.Config.{default_config}
use Rattle.walrus_config.specs.declared.config.ModuleConfig.{ModuleConfig}
use Rattle.walrus_errors.specs.declared.error.ModuleError.{ModuleError}
use Rattle.walrus_parse.specs.Parsed.{DoesRead, read_features}
use Rattle.walrus_parse.specs.Refusals.{IsRefusal}
use Rattle.wasm_formats.specs.declared.fault.Limited.{Limited}
use Rattle.wasm_rewriter.specs.declared.fault.Fault.{Fault}
use Rattle.wasm_rewriter.specs.declared.fault.Fault.TheVariants as faults
use Rattle.wasm_rewriter.specs.declared.options.Options.{Options}
use Rattle.wasm_rewriter.specs.Faults.{fault_of}

-- the options of a call that asks for nothing
abbrev pub default_options : Options
default_options = record {
  only_stable_features = false;
  legacy_exceptions = true;
  names = true;
  producers = true;
  places = false;
  shared_types = false;
  keep_segments = false;
}

-- the flags of a module that is rewritten so
abbrev pub config_of : Options → ModuleConfig
config_of o = record default_config {
  only_stable_features = o.only_stable_features;
  legacy_exceptions = o.legacy_exceptions;
  generate_name_section = o.names;
  generate_producers_section = o.producers;
  preserve_code_transform = o.places;
  shared_types = o.shared_types;
  keep_segments = o.keep_segments;
}

-- the input reads as a module
abbrev pub IsAccepted : Options → List ℕ → Type 0
IsAccepted o input = DoesRead (config_of o) input

-- reading refuses it so
pub record IsUnread (o : Options) (input : List ℕ) (fault : Fault) : Type 0 where
  pub error : ModuleError
  pub refusal : IsRefusal (read_features (config_of o)) input error
  pub fault_is : fault ≡ fault_of error

-- it reads, and what is written would pass a limit
pub record IsTooLarge (o : Options) (input : List ℕ) (fault : Fault) : Type 0 where
  pub reads : IsAccepted o input
  pub limit : Limited
  pub fault_is : fault ≡ faults.OutputLimit limit

-- the fault is that for which it is refused
abbrev pub IsRefused : Options → List ℕ → Fault → Type 0
IsRefused o input fault = IsUnread o input fault ⊎ IsTooLarge o input fault

-- what may keep an input that reads from being rewritten: want of memory, and the limits of the output
abbrev pub MayBeRefused : Fault → Type 0
MayBeRefused faults.Memory = Unit {0}
MayBeRefused (faults.OutputLimit limit) = Unit {0}
MayBeRefused _ = ⊥

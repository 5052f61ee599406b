use Rattle.std.proofs.Common.{subst}
use Rattle.walrus_config.specs.declared.config.ModuleConfig.{ModuleConfig as Flags}
use Rattle.walrus_errors.specs.declared.error.ModuleError.{ModuleError}
use Rattle.walrus_named_bodies.specs.walrus_item_names.walrus_module.walrus_body_writer.walrus_pairing.walrus_index_maps.Views.{ids}
use Rattle.walrus_named_bodies.specs.Parsed.{read_features}
use Rattle.walrus_parse.specs.Refusals.{IsRefusal}
use Rattle.walrus_parse.proofs.ReadLemmas.{is_read}
use Rattle.walrus_named_bodies.proofs.CodeLemmas.{handed}
use Rattle.walrus_parse.proofs.parse.ModuleConfigParse.parse.Goals as goal

pub returns-in_err-parse_into-clause-refused : goal.returns-in_err-parse_into-clause-refused
returns-in_err-parse_into-clause-refused g c =
    handed (λ (error : ModuleError). IsRefusal (read_features c.args.self.now) c.args.wasm.now error) c.in_err-parse_into.field-0.0 c.from_residual.result c.from_residual.ensures
    (subst (λ (config : Flags). IsRefusal (read_features config) c.args.wasm.now c.in_err-parse_into.field-0.0) c.with_config-module.ensures.config c.in_err-parse_into.ensures.refused)

pub returns-clause-read : goal.returns-clause-read
returns-clause-read g c =
    (ids c.in_ok-parse_into.field-0, is_read c.parse_into.new.module c.args.self.now c.args.wasm.now c.with_config-module.result.config (ids c.in_ok-parse_into.field-0) (c.in_ok-parse_into.ensures.flags) c.with_config-module.ensures.config c.in_ok-parse_into.ensures.read)

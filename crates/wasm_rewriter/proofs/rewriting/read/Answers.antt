use Rattle.std.proofs.Common.{subst}
use Rattle.walrus_config.specs.declared.config.ModuleConfig.{ModuleConfig}
use Rattle.walrus_parse.specs.Parsed.{DoesRead, IsRead}
use Rattle.wasm_rewriter.proofs.RefusalLemmas.{is_accepted}
use Rattle.wasm_rewriter.proofs.rewriting.read.Goals as goal

pub returns-in-Ok-clause-accepted : goal.returns-in-Ok-clause-accepted
returns-in-Ok-clause-accepted c =
    subst (λ (config : ModuleConfig). DoesRead config c.args.bytes.now) c.config_of.ensures
    (is_accepted c.config_of.result c.args.bytes.now c.in-Ok.input c.in-Ok.ensures.read)

pub returns-in-Ok-clause-read : goal.returns-in-Ok-clause-read
returns-in-Ok-clause-read c =
    subst (λ (config : ModuleConfig). IsRead config c.args.bytes.now c.in-Ok.input) c.config_of.ensures c.in-Ok.ensures.read

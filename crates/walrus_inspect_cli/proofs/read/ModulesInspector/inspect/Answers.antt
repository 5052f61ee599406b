use Rattle.std.proofs.Common.{inl, subst}
use Rattle.std.proofs.lemmas.Result.{err_from_is_err_and}
use Rattle.inspect_program.specs.walrus_config.declared.config.ModuleConfig.{ModuleConfig}
use Rattle.walrus_inspect_cli.proofs.Telling.{inspected}
use Rattle.walrus_inspect_cli.proofs.read.ModulesInspector.inspect.Goals as goal
use Rattle.walrus_parse.specs.Parsed.{IsRead, read_features}
use Rattle.walrus_parse.specs.Refusals.{IsRefusal}

pub returns-in_err-parse_into : goal.returns-in_err-parse_into
returns-in_err-parse_into c =
    let fault = c.in_err-parse_into.field-0.0 in
    let F : ModuleConfig → Type 0 = λ config. IsRefusal (read_features config) c.args.bytes.now fault in
    let p = err_from_is_err_and c.from_residual.result c.from_residual.ensures.1 in
    rw (p.1, p.2) (inl (subst F c.with_config-module.ensures.config c.in_err-parse_into.ensures.refused))

pub returns : goal.returns
returns c =
    let m = c.parse_into.new.module in
    let F : ModuleConfig → Type 0 = λ config. IsRead config c.args.bytes.now m in
    let read : IsRead c.args.config c.args.bytes.now m = subst F c.with_config-module.ensures.config (_, (c.in_ok-parse_into.ensures.flags, c.in_ok-parse_into.ensures.read)) in
    inspected c.args.kept c.args.bytes.now c.args.config m c.count_in.result read c.count_in.ensures.whole c.count_in.ensures.kept c.count_in.ensures.uncounted c.count_in.ensures.untold

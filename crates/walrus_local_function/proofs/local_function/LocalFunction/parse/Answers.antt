use Rattle.std.proofs.Common.{◌∙◌, ℕ, length, sym, subst}
use Rattle.walrus_index_maps.specs.Views.{ids}
use Rattle.walrus_function_parser.specs.walrus_body_parser.walrus_body_stack.walrus_builder.Built.{contents}
use Rattle.walrus_function_parser.specs.walrus_body_rules.Sights.{Sight}
use Rattle.walrus_function_parser.specs.Parsed.{Parses, sight_of, telling}
use Rattle.walrus_local_function.specs.declared.local_function.LocalFunction.{LocalFunction}
use Rattle.walrus_local_function.specs.Refusals.{IsRefusal}
use Rattle.walrus_local_function.proofs.CutLemmas.{cut_back}
use Rattle.walrus_local_function.proofs.local_function.LocalFunction.parse.Goals as goal

pub returns-in-Ok-clause-parsed : goal.returns-in-Ok-clause-parsed
returns-in-Ok-clause-parsed g c =
    let s : Sight = sight_of g.E.BodyEnv.type_params g.E.BodyEnv.type_results g.E.BodyEnv.block_type g.E.BodyEnv.handler_type g.E.BodyEnv.tag_type g.E.BodyEnv.is_wide g.E.BodyEnv.has_data_count c.args.env.now c.args.function (ids c.args.indices.now) in
    let told = telling g.V.Validator.locals_step g.V.Validator.op_step g.V.Validator.finish_step in
    let G : ℕ → LocalFunction → Type 0 = λ n f.
    Parses s told n (g.E.BodyEnv.code_start c.args.env.now) c.args.body c.args.entry c.args.locals.now c.parse_function.new.locals (ids c.parse_function.new.indices) c.args.validator.now c.parse_function.new.validator (contents f.builder.builder) in
    let n = length ((ids c.args.indices.now).locals c.args.function) in
    subst (G n) (sym c.new.ensures) (subst (λ (k : ℕ). G k (record { builder = c.in-Ok.builder; args = c.args.args })) c.local_count-params.ensures c.in-Ok.ensures.parsed)

pub returns-in-Err-clause-refused : goal.returns-in-Err-clause-refused
returns-in-Err-clause-refused g c =
    let s : Sight = sight_of g.E.BodyEnv.type_params g.E.BodyEnv.type_results g.E.BodyEnv.block_type g.E.BodyEnv.handler_type g.E.BodyEnv.tag_type g.E.BodyEnv.is_wide g.E.BodyEnv.has_data_count c.args.env.now c.args.function (ids c.args.indices.now) in
    let told = telling g.V.Validator.locals_step g.V.Validator.op_step g.V.Validator.finish_step in
    let F : ℕ → Type 0 = λ n.
    IsRefusal s told n (g.E.BodyEnv.code_start c.args.env.now) c.args.body c.args.locals.now c.parse_function.new.locals c.args.validator.now c.parse_function.new.validator c.in-Err.fault in
    subst F c.local_count-params.ensures (record { met = ids c.parse_function.new.indices; left = c.in-Err.ensures.kept; refused = c.in-Err.ensures.refused; stops = c.in-Err.ensures.stops })

pub returns-in-Err-clause-kept : goal.returns-in-Err-clause-kept
returns-in-Err-clause-kept g c =
    c.keep_locals.ensures ∙ cut_back c.args.function c.local_count-params.result c.in-Err.ensures.kept.ids (ids c.args.indices.now) (ids c.parse_function.new.indices) c.in-Err.ensures.kept.named c.local_count-params.ensures

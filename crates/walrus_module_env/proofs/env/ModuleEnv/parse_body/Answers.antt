use Rattle.std.proofs.Common.{length}
use Rattle.walrus_handler_types.specs.walrus_tree.walrus_builder.Built.{contents}
use Rattle.walrus_index_maps.specs.Views.{ids}
use Rattle.walrus_functions_into.specs.walrus_collections.walrus_local_function.walrus_function_parser.Parsed.{Parses, telling}
use Rattle.walrus_functions_into.specs.walrus_collections.walrus_local_function.Refusals.{IsRefusal}
use Rattle.walrus_module_env.specs.Around.{sight_in}
use Rattle.walrus_module_env.specs.Parsed.{IsBodyOfFile, IsFaultOfFile}
use Rattle.walrus_module_env.proofs.ParseLemmas.{is_read, is_refusal, of_ok, of_err}
use Rattle.walrus_module_env.proofs.env.ModuleEnv.parse_body.Goals as goal

pub returns-clause-file : goal.returns-clause-file
returns-clause-file g c =
    let told = telling g.V.Validator.locals_step g.V.Validator.op_step g.V.Validator.finish_step in
    let e = c.args.self.now in
    let i = ids c.args.indices.now in
    let j = ids c.parse.new.indices in
    let n = length (i.locals c.args.function) in
    of_ok (λ f. Parses (sight_in e c.args.function i) told n e.code_start c.args.body c.args.entry c.args.locals.now c.parse.new.locals j c.args.validator.now c.parse.new.validator (contents f.builder.builder))
    (λ f. IsBodyOfFile e c.args.function i told n c.args.body j (contents f.builder.builder)) c.parse.result
    (λ f p. is_read e c.args.function i told n c.args.body c.args.entry c.args.locals.now c.parse.new.locals j c.args.validator.now c.parse.new.validator (contents f.builder.builder) p) c.parse.ensures.parsed

pub returns-clause-stops : goal.returns-clause-stops
returns-clause-stops g c =
    let told = telling g.V.Validator.locals_step g.V.Validator.op_step g.V.Validator.finish_step in
    let e = c.args.self.now in
    let i = ids c.args.indices.now in
    let n = length (i.locals c.args.function) in
    of_err (λ fault. IsRefusal (sight_in e c.args.function i) told n e.code_start c.args.body c.args.locals.now c.parse.new.locals c.args.validator.now c.parse.new.validator fault)
    (λ fault. IsFaultOfFile e c.args.function i told n c.args.body c.args.locals.now c.parse.new.locals fault) c.parse.result
    (λ fault h. is_refusal e c.args.function i told n c.args.body c.args.locals.now c.parse.new.locals c.args.validator.now c.parse.new.validator fault h) c.parse.ensures.refused

use Rattle.std.proofs.Common.{◌≡◌, ◌⊎◌, ℕ, List, Option, Some, None, IfOk, IfErr, ap, subst, ◌∙◌}
use Rattle.std.proofs.lemmas.Result.{err_from_is_err_and}
use Rattle.std.specs.declared.alloc.Global.{Global}
use Rattle.std.specs.declared.string.String.{String}
use Rattle.walrus_body_parser.specs.walrus_body_stack.walrus_builder.Built.{Seq, contents}
use Rattle.walrus_index_maps.specs.Views.{ids}
use Rattle.walrus_body_parser.specs.walrus_body_locals.walrus_body_env.declared.error.BodyError.TheVariants.{Memory}
use Rattle.walrus_body_parser.specs.walrus_body_locals.walrus_body_nesting.Opens.{type_at}
use Rattle.walrus_body_parser.specs.walrus_body_stack.Frames.{heading}
use Rattle.walrus_body_parser.specs.walrus_body_rules.Sights.{Sight}
use Rattle.walrus_body_parser.specs.Trees.{ReadsTree, RefusesTree}
use Rattle.walrus_function_parser.specs.Parsed.{Begins, IsCause, IsRefused, Parses, seen_by, sight_of, telling}
use Rattle.walrus_function_parser.proofs.Bodies.{both_ok, of_ok, of_err, is_within, locals_refused, parses_so, refuses_so, short_so}
use Rattle.walrus_function_parser.proofs.Stopping.{causes}
use Rattle.walrus_function_parser.proofs.parse.parse_function.Goals as goal

pub returns-in_err-read_locals-clause-refused : goal.returns-in_err-read_locals-clause-refused
returns-in_err-read_locals-clause-refused g c =
    let p = err_from_is_err_and c.from_residual.result c.from_residual.ensures.1 in
    let s : Sight = sight_of g.E.BodyEnv.type_params g.E.BodyEnv.type_results g.E.BodyEnv.block_type g.E.BodyEnv.handler_type g.E.BodyEnv.tag_type g.E.BodyEnv.is_wide g.E.BodyEnv.has_data_count c.args.env.now c.args.function (ids c.args.indices.now) in
    rw (p.1, p.2) (locals_refused s (telling g.V.Validator.locals_step g.V.Validator.op_step g.V.Validator.finish_step) c.args.params (g.E.BodyEnv.code_start c.args.env.now) c.args.body c.args.locals.now c.read_locals.new.locals
    (ids c.read_locals.new.indices) c.args.validator.now c.read_locals.new.validator c.in_err-read_locals.field-0.0 c.in_err-read_locals.ensures.refused)

pub returns-in_err-read_locals-clause-stops : goal.returns-in_err-read_locals-clause-stops
returns-in_err-read_locals-clause-stops g c =
    let p = err_from_is_err_and c.from_residual.result c.from_residual.ensures.1 in
    let s : Sight = sight_of g.E.BodyEnv.type_params g.E.BodyEnv.type_results g.E.BodyEnv.block_type g.E.BodyEnv.handler_type g.E.BodyEnv.tag_type g.E.BodyEnv.is_wide g.E.BodyEnv.has_data_count c.args.env.now c.args.function (ids c.args.indices.now) in
    let told = telling g.V.Validator.locals_step g.V.Validator.op_step g.V.Validator.finish_step in
    let start = c.original_position-start.ensures in
    let within = is_within c.args.body c.original_position-start.result start.place start.left in
    rw (p.1, p.2) (causes s told c.args.params (g.E.BodyEnv.code_start c.args.env.now) c.args.body c.args.locals.now c.read_locals.new.locals (ids c.read_locals.new.indices) c.args.validator.now c.read_locals.new.validator c.in_err-read_locals.field-0.0
    within c.requires.begins (locals_refused s told c.args.params (g.E.BodyEnv.code_start c.args.env.now) c.args.body c.args.locals.now c.read_locals.new.locals
    (ids c.read_locals.new.indices) c.args.validator.now c.read_locals.new.validator c.in_err-read_locals.field-0.0 c.in_err-read_locals.ensures.refused))

pub returns-clause-parsed : goal.returns-clause-parsed
returns-clause-parsed g c =
    let s : Sight = sight_of g.E.BodyEnv.type_params g.E.BodyEnv.type_results g.E.BodyEnv.block_type g.E.BodyEnv.handler_type g.E.BodyEnv.tag_type g.E.BodyEnv.is_wide g.E.BodyEnv.has_data_count c.args.env.now c.args.function (ids c.args.indices.now) in
    let told = telling g.V.Validator.locals_step g.V.Validator.op_step g.V.Validator.finish_step in
    let code = g.E.BodyEnv.code_start c.args.env.now in
    let mid = c.read_locals.new.reader in
    let j = ids c.read_locals.new.indices in
    let left = c.read_locals.new.validator in
    let w = c.read_tree.new.validator in
    let start = c.original_position-start.ensures in
    let within = is_within c.args.body c.original_position-start.result start.place start.left in
    let begins : Begins s told c.args.params code c.args.body mid c.args.locals.now c.read_locals.new.locals j c.args.validator.now left =
    record { declares = c.in_ok-read_locals.ensures.declared; moves = c.read_locals.ensures.moves } in
    let typed : type_at (contents c.in_ok-builder.builder.builder) 0 ≡ Some c.args.entry = ap (λ (l : List Seq). type_at l 0) c.in_ok-builder.ensures.body in
    let F : Sight → ℕ → Type 0 = λ z n. IfOk c.read_tree.result (λ f. ReadsTree z told.rest n mid left w (contents f.builder)) in
    let S : Sight → Type 0 = λ z. F z c.code_start-code_start.result in
    both_ok (λ f. type_at (contents f.builder) 0 ≡ type_at (contents c.in_ok-builder.builder.builder) 0) (λ f. ReadsTree (seen_by s j) told.rest code mid left w (contents f.builder))
    (λ f. Parses s told c.args.params code c.args.body c.args.entry c.args.locals.now c.read_locals.new.locals j c.args.validator.now w (contents f.builder)) c.read_tree.result
    (λ f e t. parses_so s told c.args.params code c.args.body mid c.args.locals.now c.read_locals.new.locals j c.args.validator.now left begins c.args.entry w (contents f.builder) within c.requires.begins t (e ∙ typed))
    c.read_tree.ensures.entry (subst (F (seen_by s j)) c.code_start-code_start.ensures (subst S c.new-scope.ensures c.read_tree.ensures.read))

pub returns-in_err-builder-clause-refused : goal.returns-in_err-builder-clause-refused
returns-in_err-builder-clause-refused g c =
    let s : Sight = sight_of g.E.BodyEnv.type_params g.E.BodyEnv.type_results g.E.BodyEnv.block_type g.E.BodyEnv.handler_type g.E.BodyEnv.tag_type g.E.BodyEnv.is_wide g.E.BodyEnv.has_data_count c.args.env.now c.args.function (ids c.args.indices.now) in
    let told = telling g.V.Validator.locals_step g.V.Validator.op_step g.V.Validator.finish_step in
    let code = g.E.BodyEnv.code_start c.args.env.now in
    let mid = c.read_locals.new.reader in
    let j = ids c.read_locals.new.indices in
    let left = c.read_locals.new.validator in
    let begins : Begins s told c.args.params code c.args.body mid c.args.locals.now c.read_locals.new.locals j c.args.validator.now left =
    record { declares = c.in_ok-read_locals.ensures.declared; moves = c.read_locals.ensures.moves } in
    let p = err_from_is_err_and c.from_residual-in_err-builder.result c.from_residual-in_err-builder.ensures.1 in
    rw (p.1, p.2) (short_so s told c.args.params code c.args.body mid c.args.locals.now c.read_locals.new.locals j c.args.validator.now left begins)

pub returns-clause-refused : goal.returns-clause-refused
returns-clause-refused g c =
    let s : Sight = sight_of g.E.BodyEnv.type_params g.E.BodyEnv.type_results g.E.BodyEnv.block_type g.E.BodyEnv.handler_type g.E.BodyEnv.tag_type g.E.BodyEnv.is_wide g.E.BodyEnv.has_data_count c.args.env.now c.args.function (ids c.args.indices.now) in
    let told = telling g.V.Validator.locals_step g.V.Validator.op_step g.V.Validator.finish_step in
    let code = g.E.BodyEnv.code_start c.args.env.now in
    let mid = c.read_locals.new.reader in
    let j = ids c.read_locals.new.indices in
    let left = c.read_locals.new.validator in
    let begins : Begins s told c.args.params code c.args.body mid c.args.locals.now c.read_locals.new.locals j c.args.validator.now left =
    record { declares = c.in_ok-read_locals.ensures.declared; moves = c.read_locals.ensures.moves } in
    let F : Sight → ℕ → Type 0 = λ z n. IfErr c.read_tree.result (λ e. RefusesTree z told.rest n mid left c.read_tree.new.validator e) in
    let S : Sight → Type 0 = λ z. F z c.code_start-code_start.result in
    of_err (λ e. RefusesTree (seen_by s j) told.rest code mid left c.read_tree.new.validator e) (λ e. IsRefused s told c.args.params code c.args.body c.args.locals.now c.read_locals.new.locals j c.args.validator.now c.read_tree.new.validator e) c.read_tree.result
    (λ e h. refuses_so s told c.args.params code c.args.body mid c.args.locals.now c.read_locals.new.locals j c.args.validator.now left begins c.read_tree.new.validator e h) (subst (F (seen_by s j)) c.code_start-code_start.ensures (subst S c.new-scope.ensures c.read_tree.ensures.refused))

pub returns-clause-stops : goal.returns-clause-stops
returns-clause-stops g c =
    let s : Sight = sight_of g.E.BodyEnv.type_params g.E.BodyEnv.type_results g.E.BodyEnv.block_type g.E.BodyEnv.handler_type g.E.BodyEnv.tag_type g.E.BodyEnv.is_wide g.E.BodyEnv.has_data_count c.args.env.now c.args.function (ids c.args.indices.now) in
    let told = telling g.V.Validator.locals_step g.V.Validator.op_step g.V.Validator.finish_step in
    let code = g.E.BodyEnv.code_start c.args.env.now in
    let j = ids c.read_locals.new.indices in
    let start = c.original_position-start.ensures in
    let within = is_within c.args.body c.original_position-start.result start.place start.left in
    of_err (λ e. IsRefused s told c.args.params code c.args.body c.args.locals.now c.read_locals.new.locals j c.args.validator.now c.read_tree.new.validator e) (λ e. (e ≡ Memory) ⊎ IsCause s told c.args.params code c.args.body j e) c.read_tree.result
    (λ e h. causes s told c.args.params code c.args.body c.args.locals.now c.read_locals.new.locals j c.args.validator.now c.read_tree.new.validator e within c.requires.begins h) (returns-clause-refused g c)

pub returns-clause-ty : goal.returns-clause-ty
returns-clause-ty g c = of_ok (λ f. heading f ≡ heading c.in_ok-builder.builder) (λ f. f.ty ≡ c.args.ty) c.read_tree.result (λ f e. ap (λ (h : ℕ × Option (String Global)). h.0) e ∙ c.in_ok-builder.ensures.type_is) c.read_tree.ensures.ty

pub returns-clause-name : goal.returns-clause-name
returns-clause-name g c = of_ok (λ f. heading f ≡ heading c.in_ok-builder.builder) (λ f. f.name ≡ None) c.read_tree.result (λ f e. ap (λ (h : ℕ × Option (String Global)). h.1) e ∙ c.in_ok-builder.ensures.unnamed) c.read_tree.ensures.ty

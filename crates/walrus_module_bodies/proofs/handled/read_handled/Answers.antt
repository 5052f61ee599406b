use Rattle.std.proofs.Common.{inl, inr, length, refl, take, ⊎_elim}
use Rattle.std.proofs.lemmas.Result.{err_from_is_err_and}
use Rattle.walrus_index_maps.specs.Views.{ids}
use Rattle.walrus_module_env.proofs.walrus_handler_types.Growing.{given_types_grow}
use Rattle.walrus_module_env.specs.walrus_handler_types.walrus_handlers.Gathering.{listed}
use Rattle.walrus_module_env.specs.walrus_handler_types.walrus_handler_laws.Handlers.{tree_ids}
use Rattle.walrus_module_env.specs.walrus_body_parser.walrus_body_stack.walrus_builder.Built.{contents}
use Rattle.walrus_module_env.specs.Env.{tag_type_at}
use Rattle.walrus_module_bodies.proofs.ReadingLemmas.{gives_handlers, handled_read, lent_tree, lent_untried}
use Rattle.walrus_module_bodies.proofs.handled.read_handled.Goals as goal

pub handlers_if-requires-clause-untried : goal.handlers_if-requires-clause-untried
handlers_if-requires-clause-untried c = lent_untried c.in_ok-read.read.builder c.builder.result.now c.builder.ensures c.read_tree.new.tries.any c.in_ok-read.ensures.tries

pub give_types-requires : goal.give_types-requires
give_types-requires c = lent_tree c.in_ok-read.read.builder c.builder_mut.result.now c.builder_mut.ensures.value c.in_ok-read.ensures.tree

pub returns-in_err-give_types-clause-grown : goal.returns-in_err-give_types-clause-grown
returns-in_err-give_types-clause-grown c =
    let z = c.builder_mut.result.now in
    let t = lent_tree c.in_ok-read.read.builder z c.builder_mut.ensures.value c.in_ok-read.ensures.tree in
    let r = c.in_err-give_types.ensures.refused t in
    given_types_grow (listed c.as_slice.result.now) (take r.0 (tree_ids t)) (contents z.builder) (contents c.give_types.new.body.builder) c.args.types.now c.give_types.new.types r.1

pub returns-clause-grown : goal.returns-clause-grown
returns-clause-grown c =
    let z = c.builder_mut.result.now in
    let t = lent_tree c.in_ok-read.read.builder z c.builder_mut.ensures.value c.in_ok-read.ensures.tree in
    given_types_grow (listed c.as_slice.result.now) (tree_ids t) (contents z.builder) (contents c.give_types.new.body.builder) c.args.types.now c.give_types.new.types (c.in_ok-give_types.ensures.given t)

pub returns-clause-handled : goal.returns-clause-handled
returns-clause-handled c =
    gives_handlers (tag_type_at c.beside-env.result.tags.now) c.in_ok-read.read.builder c.builder.result.now c.builder_mut.result.now c.builder.ensures c.builder_mut.ensures.value c.in_ok-read.ensures.tree
    c.in_ok-told.told.items c.as_slice.result.now c.as_slice.ensures.value c.in_ok-told.ensures.told
    c.args.file c.beside-env.result c.args.types.now c.give_types.new.types c.args.function (length c.args.args.items) c.args.body
    (ids c.args.indices.now) (ids c.read_tree.new.indices) c.args.locals.now c.read_tree.new.locals (contents c.give_types.new.body.builder) c.beside-env.ensures refl
    c.in_ok-read.ensures.read c.in_ok-give_types.ensures.given

pub returns-clause-read : goal.returns-clause-read
returns-clause-read c =
    handled_read c.handled_bodies_stand.ensures c.picks_are_seen.ensures c.args.file c.args.types.now c.give_types.new.types c.args.function (length c.args.args.items) c.args.body
    (ids c.args.indices.now) (ids c.read_tree.new.indices) c.args.locals.now c.read_tree.new.locals (contents c.give_types.new.body.builder)
    (gives_handlers (tag_type_at c.beside-env.result.tags.now) c.in_ok-read.read.builder c.builder.result.now c.builder_mut.result.now c.builder.ensures c.builder_mut.ensures.value c.in_ok-read.ensures.tree
    c.in_ok-told.told.items c.as_slice.result.now c.as_slice.ensures.value c.in_ok-told.ensures.told
    c.args.file c.beside-env.result c.args.types.now c.give_types.new.types c.args.function (length c.args.args.items) c.args.body
    (ids c.args.indices.now) (ids c.read_tree.new.indices) c.args.locals.now c.read_tree.new.locals (contents c.give_types.new.body.builder) c.beside-env.ensures refl
    c.in_ok-read.ensures.read c.in_ok-give_types.ensures.given)

pub returns-in_err-read-clause-stops : goal.returns-in_err-read-clause-stops
returns-in_err-read-clause-stops c =
    let p = err_from_is_err_and c.from_residual.result c.from_residual.ensures.1 in
    rw (p.1, p.2) (⊎_elim (λ m. inl m) (λ fault. inr (c.beside-env.result, c.beside-env.ensures, fault)) c.in_err-read.ensures.stops)

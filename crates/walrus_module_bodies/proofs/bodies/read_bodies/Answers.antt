use Rattle.std.proofs.Common.{drop, inl, inr, refl, ⊎_elim}
use Rattle.std.proofs.lemmas.Result.{err_from_is_err_and}
use Rattle.walrus_index_maps.specs.Views.{ids}
use Rattle.walrus_module_bodies.specs.Steps.{state}
use Rattle.walrus_module_bodies.proofs.StepLemmas.{going_filed, going_first, going_last, going_next, going_ready, going_stops, going_tags}
use Rattle.walrus_module_bodies.proofs.bodies.read_bodies.Goals as goal

pub loop-body-init : goal.loop-body-init
loop-body-init c =
    going_first c.found_types_stay.ensures c.tables_grow_on.ensures c.args.file c.args.features c.args.bodies.now (state c.args.types.now c.args.locals.now (ids c.args.indices.now) c.args.functions.now) c.requires.ready c.requires.apart

pub read_body-requires-clause-placed : goal.read_body-requires-clause-placed
read_body-requires-clause-placed c = c.requires.placed c.loop-body.body-index _ c.loop-body-test.true

pub read_body-requires-clause-ready : goal.read_body-requires-clause-ready
read_body-requires-clause-ready c =
    going_ready c.found_types_stay.ensures c.tables_grow_on.ensures c.args.file c.args.features c.args.bodies.now c.loop-body.body-index _ _
    (state c.args.types.now c.args.locals.now (ids c.args.indices.now) c.args.functions.now) (state c.loop-body.types c.loop-body.locals (ids c.loop-body.indices) c.loop-body.functions) refl c.loop-body-test.true c.loop-body.invariant

pub read_body-requires-clause-filed : goal.read_body-requires-clause-filed
read_body-requires-clause-filed c =
    going_filed c.found_types_stay.ensures c.tables_grow_on.ensures c.args.file c.args.features c.args.bodies.now (drop c.loop-body.body-index c.args.bodies.now)
    (state c.args.types.now c.args.locals.now (ids c.args.indices.now) c.args.functions.now) (state c.loop-body.types c.loop-body.locals (ids c.loop-body.indices) c.loop-body.functions) c.loop-body.invariant c.requires.filed

pub read_body-requires-clause-tags : goal.read_body-requires-clause-tags
read_body-requires-clause-tags c =
    going_tags c.found_types_stay.ensures c.tables_grow_on.ensures c.args.file c.args.features c.args.file.tags.now c.args.bodies.now (drop c.loop-body.body-index c.args.bodies.now)
    (state c.args.types.now c.args.locals.now (ids c.args.indices.now) c.args.functions.now) (state c.loop-body.types c.loop-body.locals (ids c.loop-body.indices) c.loop-body.functions) c.loop-body.invariant c.requires.tags

pub returns-in_err-read_body-clause-stops : goal.returns-in_err-read_body-clause-stops
returns-in_err-read_body-clause-stops c =
    let p = err_from_is_err_and c.from_residual.result c.from_residual.ensures.1 in
    rw (p.1, p.2) (⊎_elim
    (λ m. inl m)
    (λ fails. inr (going_stops c.found_types_stay.ensures c.tables_grow_on.ensures c.args.file c.args.features c.args.bodies.now c.loop-body.body-index _ _
    (state c.args.types.now c.args.locals.now (ids c.args.indices.now) c.args.functions.now) (state c.loop-body.types c.loop-body.locals (ids c.loop-body.indices) c.loop-body.functions)
    c.in_err-read_body.field-0.0 refl c.loop-body-test.true c.loop-body.invariant fails))
    c.in_err-read_body.ensures.stops)

pub loop-body-preserved : goal.loop-body-preserved
loop-body-preserved c =
    going_next c.found_types_stay.ensures c.tables_grow_on.ensures c.args.file c.args.features c.args.bodies.now c.loop-body.body-index _ _
    (state c.args.types.now c.args.locals.now (ids c.args.indices.now) c.args.functions.now) (state c.loop-body.types c.loop-body.locals (ids c.loop-body.indices) c.loop-body.functions)
    (state c.read_body.new.types c.read_body.new.locals (ids c.read_body.new.indices) c.read_body.new.functions) refl c.loop-body-test.true c.loop-body.invariant c.in_ok-read_body.ensures.read

pub returns-clause-read : goal.returns-clause-read
returns-clause-read c =
    going_last c.found_types_stay.ensures c.tables_grow_on.ensures c.args.file c.args.features c.args.bodies.now c.loop-body.body-index
    (state c.args.types.now c.args.locals.now (ids c.args.indices.now) c.args.functions.now) (state c.loop-body.types c.loop-body.locals (ids c.loop-body.indices) c.loop-body.functions) c.loop-body-test.false c.loop-body.invariant

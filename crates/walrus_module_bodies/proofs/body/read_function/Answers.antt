use Rattle.std.proofs.Common.{◌≡◌, ℕ, List, IfSome, Vec, Global, ap, inl, inr, subst, ⊎_elim}
use Rattle.std.proofs.lemmas.Result.{err_from_is_err_and}
use Rattle.walrus_forms.specs.declared.value.ValType.{ValType}
use Rattle.walrus_module_env.specs.walrus_body_parser.walrus_body_stack.walrus_instr.walrus_types.Table.{Table}
use Rattle.walrus_function_types.specs.FunctionTypes.{params_at}
use Rattle.walrus_index_maps.specs.Views.{ids}
use Rattle.walrus_module_bodies.specs.Steps.{state}
use Rattle.walrus_module_bodies.proofs.BodyLemmas.{failed, filed_then, read_for, tags_then}
use Rattle.walrus_module_bodies.proofs.body.read_function.Goals as goal

pub read_handled-requires-clause-filed : goal.read_handled-requires-clause-filed
read_handled-requires-clause-filed c =
    filed_then c.entry_types_grow.ensures c.args.file.now c.args.features c.args.body.now (state c.args.types.now c.args.locals.now (ids c.args.indices.now) c.args.functions.now) c.requires.ready
    c.function-function.result c.ty-ty.result c.function-function.ensures c.get.result.now c.get.ensures c.ty-ty.ensures c.in_ok-entry.entry c.entry_type.new.types c.in_ok-entry.ensures
    c.params_of.result.now c.add_arguments.new.locals (ids c.add_arguments.new.indices) c.in_ok-args.args.items c.in_ok-args.ensures c.reader_of-reader.result c.reader_of-reader.ensures.begins
    c.requires.filed c.beside-env.result c.beside-env.ensures

pub returns-clause-read : goal.returns-clause-read
returns-clause-read c = λ before given same gives.
    read_for c.entry_types_grow.ensures c.args.file.now c.args.features c.args.body.now (state c.args.types.now c.args.locals.now (ids c.args.indices.now) c.args.functions.now) c.requires.ready before same
    c.function-function.result c.ty-ty.result c.function-function.ensures c.get.result.now c.get.ensures c.ty-ty.ensures c.in_ok-entry.entry c.entry_type.new.types c.in_ok-entry.ensures
    c.params_of.result.now c.add_arguments.new.locals (ids c.add_arguments.new.indices) c.in_ok-args.args.items c.in_ok-args.ensures c.reader_of-reader.result c.reader_of-reader.ensures.begins
    c.tables_grow_on.ensures (subst (λ (t : Table). IfSome (params_at t c.ty-ty.result) (λ (ps : List ValType). c.params_of.result.now ≡ ps)) c.beside-env.ensures.types_are c.params_of.ensures)
    c.read_handled.new.types c.read_handled.new.locals (ids c.read_handled.new.indices) given c.in_ok-read.read
    c.in_ok-read.ensures.read c.in_ok-read.ensures.handled c.in_ok-read.ensures.grown c.in_ok-read.ensures.ty c.in_ok-read.ensures.name (ap (λ (v : Vec ℕ Global). v.items) c.in_ok-read.ensures.args) c.in_ok-read.ensures.kept gives

pub read_handled-requires-clause-tags : goal.read_handled-requires-clause-tags
read_handled-requires-clause-tags c =
    tags_then c.entry_types_grow.ensures c.args.file.now c.args.features c.args.body.now (state c.args.types.now c.args.locals.now (ids c.args.indices.now) c.args.functions.now) c.requires.ready
    c.function-function.result c.ty-ty.result c.function-function.ensures c.get.result.now c.get.ensures c.ty-ty.ensures c.in_ok-entry.entry c.entry_type.new.types c.in_ok-entry.ensures
    c.params_of.result.now c.add_arguments.new.locals (ids c.add_arguments.new.indices) c.in_ok-args.args.items c.in_ok-args.ensures c.reader_of-reader.result c.reader_of-reader.ensures.begins
    c.found_types_stay.ensures c.args.file.now.tags.now c.requires.tags

pub returns-in_err-read-clause-stops : goal.returns-in_err-read-clause-stops
returns-in_err-read-clause-stops c =
    let p = err_from_is_err_and c.from_residual-in_err-read.result c.from_residual-in_err-read.ensures.1 in
    rw (p.1, p.2) (⊎_elim
    (λ m. inl m)
    (λ it. inr (failed c.entry_types_grow.ensures c.args.file.now c.args.features c.args.body.now (state c.args.types.now c.args.locals.now (ids c.args.indices.now) c.args.functions.now) c.requires.ready
    c.function-function.result c.ty-ty.result c.function-function.ensures c.get.result.now c.get.ensures c.ty-ty.ensures c.in_ok-entry.entry c.entry_type.new.types c.in_ok-entry.ensures
    c.params_of.result.now c.add_arguments.new.locals (ids c.add_arguments.new.indices) c.in_ok-args.args.items c.in_ok-args.ensures c.reader_of-reader.result c.reader_of-reader.ensures.begins
    (subst (λ (t : Table). IfSome (params_at t c.ty-ty.result) (λ (ps : List ValType). c.params_of.result.now ≡ ps)) c.beside-env.ensures.types_are c.params_of.ensures)
    it.0 it.1 c.in_err-read.field-0.0 it.2))
    c.in_err-read.ensures.stops)

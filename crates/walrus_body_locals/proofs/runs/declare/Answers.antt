use Rattle.std.proofs.Common.{List, [], ◌∷◌, subst, sym}
use Rattle.std.specs.List.{repeat}
use Rattle.walrus_index_maps.specs.Views.{ids}
use Rattle.walrus_pairing.specs.walrus_items.declared.local.Local.{Local}
use Rattle.walrus_forms.specs.declared.value.ValType.{ValType}
use Rattle.walrus_body_locals.specs.Locals.{Adds, Leaves}
use Rattle.walrus_body_locals.proofs.Adding.{adds_one, adds_more, many_more}
use Rattle.walrus_body_locals.proofs.Keeping.{adds_leaves, leaves_more, leaves_one_kept, on_err}
use Rattle.walrus_body_locals.proofs.runs.declare.Goals as goal

pub returns-in_err-push_local-clause-refused : goal.returns-in_err-push_local-clause-refused
returns-in_err-push_local-clause-refused c =
    on_err c.from_residual-in_err-push_local.result (
    leaves_more c.args.function (repeat c.loop.counter (c.args.ty ∷ [])) c.args.locals.now c.loop.locals c.add.new.self (ids c.args.indices.now) (ids c.loop.indices) (ids c.push_local.new.self) c.loop.invariant
    (leaves_one_kept c.args.function c.args.ty c.loop.locals c.add.new.self (ids c.loop.indices) (ids c.push_local.new.self) c.in_ok-id.id c.in_ok-id.ensures.id c.in_ok-id.ensures.added c.in_err-push_local.ensures.refused))

pub returns-in_err-id-clause-refused : goal.returns-in_err-id-clause-refused
returns-in_err-id-clause-refused c =
    on_err c.from_residual.result (subst (λ (ms : List Local). Leaves c.args.function c.args.locals.now ms (ids c.args.indices.now) (ids c.loop.indices)) (sym c.in_err-id.ensures.refused)
    (adds_leaves c.args.function (repeat c.loop.counter (c.args.ty ∷ [])) c.args.locals.now c.loop.locals (ids c.args.indices.now) (ids c.loop.indices) c.loop.invariant))

pub loop-preserved : goal.loop-preserved
loop-preserved c =
    let F : List ValType → Type 0 = λ tys. Adds c.args.function tys c.args.locals.now c.add.new.self (ids c.args.indices.now) (ids c.push_local.new.self) in
    subst F (many_more c.loop.counter c.args.ty)
    (adds_more c.args.function (repeat c.loop.counter (c.args.ty ∷ [])) (c.args.ty ∷ []) c.args.locals.now c.loop.locals c.add.new.self (ids c.args.indices.now) (ids c.loop.indices) (ids c.push_local.new.self) c.loop.invariant
    (adds_one c.args.function c.args.ty c.loop.locals c.add.new.self (ids c.loop.indices) (ids c.push_local.new.self) c.in_ok-id.id c.in_ok-id.ensures.id c.in_ok-id.ensures.added c.in_ok-push_local.ensures.pushed.1))

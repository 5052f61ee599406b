use Rattle.std.specs.Prelude.{IfSome}
use Rattle.std.proofs.Common.{◌≡◌, ℕ, refl, subst}
use Rattle.std.proofs.lemmas.Result.{err_from_is_err_and}
use Rattle.walrus_arena.specs.Arena.{item_at, with_item}
use Rattle.walrus_module_env.specs.walrus_collections.walrus_module_items.declared.function.Function.{Function}
use Rattle.walrus_module_env.specs.walrus_collections.walrus_module_items.declared.function.FunctionKind.TheVariants as kinds
use Rattle.walrus_module_bodies.proofs.body.read_body.Goals as goal

pub returns-in_err-read-clause-stops : goal.returns-in_err-read-clause-stops
returns-in_err-read-clause-stops c =
    let p = err_from_is_err_and c.from_residual.result c.from_residual.ensures.1 in
    rw (p.1, p.2) c.in_err-read.ensures.stops

pub returns-clause-read : goal.returns-clause-read
returns-clause-read c =
    c.in_ok-read.ensures.read c.args.functions.now c.give_body.new.functions refl
    (subst (λ (n : ℕ). IfSome (item_at c.args.functions.now n) (λ (item : Function). c.give_body.new.functions ≡ with_item c.args.functions.now n (record item { kind = kinds.Local c.in_ok-read.read })))
    c.function.ensures c.give_body.ensures)

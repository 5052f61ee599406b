use Rattle.std.proofs.Common.{◌≡◌, refl, sym}
use Rattle.walrus_body_nesting.specs.Stands.{parts_of}
use Rattle.walrus_body_stack.proofs.Handling.{finish_end, once_end}
use Rattle.walrus_body_stack.proofs.handlers.Handlers.into_try.Goals as goal

pub returns : goal.returns
returns c =
    let v = c.self.inside.catches in
    let seen : c.args.self ≡ parts_of v.items = (let e = c.self.view_is in cc) in
    (v, refl, seen, sym (finish_end v.items c.self.invariant), once_end v.items c.self.invariant)

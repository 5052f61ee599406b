use Rattle.std.proofs.Common.{◌≡◌, [], ◌∷◌, ◌++◌, refl, sym, ap, subst, ◌∙◌}
use Rattle.walrus_instr.specs.declared.instr.LegacyCatch.TheVariants as legacy
use Rattle.walrus_body_nesting.specs.Stands.{parts_of, finish_of, EndsOnce}
use Rattle.walrus_body_stack.proofs.Handling.{parts_delegate, finish_delegate, once_delegate}
use Rattle.walrus_body_stack.proofs.handlers.Handlers.into_delegating.Goals as goal

pub returns : goal.returns
returns c =
    let v = c.self.inside.catches in
    let seen : c.args.self ≡ parts_of v.items = (let e = c.self.view_is in cc) in
    let longer : c.push.new.self.items ≡ v.items ++ legacy.Delegate c.args.depth ∷ [] = c.in_ok-push.ensures.items in
    (c.push.new.self, refl, seen ∙ sym (parts_delegate v.items c.args.depth c.self.invariant) ∙ sym (ap parts_of longer), sym (ap finish_of longer ∙ finish_delegate v.items c.args.depth c.self.invariant), subst EndsOnce (sym longer) (once_delegate v.items c.args.depth c.self.invariant))

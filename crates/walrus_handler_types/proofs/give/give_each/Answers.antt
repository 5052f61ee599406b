use Rattle.std.proofs.Common.{◌≡◌, ◌∙◌, ◌+◌, ℕ, List, [], ◌∷◌, ◌++◌, take, Option, sym, ap, subst}
use Rattle.std.proofs.lemmas.List.{take_more}
use Rattle.walrus_handler_types.specs.Giving.{Gives, GivesAt}
use Rattle.walrus_handlers.specs.Gathering.{listed}
use Rattle.walrus_handlers.specs.walrus_handler_laws.declared.handler.Handler.{Handler}
use Rattle.walrus_handlers.specs.walrus_tree.walrus_builder.Built.{contents}
use Rattle.walrus_handler_types.proofs.Growing.{gives_more}
use Rattle.walrus_handler_types.proofs.give.give_each.Goals as goal

pub loop-id-preserved : goal.loop-id-preserved
loop-id-preserved c =
    let hs = c.args.handlers.now in
    let ks = c.args.order.now in
    let n = c.loop-id.id-index in
    let k : ℕ = c.id-item.result in
    let b = contents c.args.body.now.builder in
    let was = c.loop-id in
    let body = contents c.give_type.new.body.builder in
    let types = c.give_type.new.types in
    let e = c.in_ok-give_type.ensures in
    let one = subst (λ (o : Option Handler). GivesAt k o (contents was.body.builder) was.types body types) c.listed.ensures e.given in
    let all : take (n + 1) ks ≡ take n ks ++ k ∷ [] = take_more ks n k c.loop-id-test.true ∙ ap (λ (j : ℕ). take n ks ++ j ∷ []) (sym c.id-item.is) in
    record {
      given = subst (λ (l : List ℕ). Gives (listed hs) l b c.args.types.now body types) (sym all)
          (gives_more (listed hs) (take n ks) k b (contents was.body.builder) body c.args.types.now was.types types was.invariant.given one);
      ty = e.ty ∙ was.invariant.ty;
      name = e.name ∙ was.invariant.name;
      many = e.many ∙ was.invariant.many;
    }

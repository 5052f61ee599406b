use Rattle.walrus_index_maps.specs.Views.{ids}
use Rattle.walrus_module_bodies.proofs.ArgumentLemmas.{arguments_on}
use Rattle.walrus_module_bodies.proofs.arguments.add_arguments.Goals as goal

pub loop-ty-preserved : goal.loop-ty-preserved
loop-ty-preserved c =
    arguments_on c.args.function c.args.params.now c.loop-ty.ty-index _ c.ty-item.result c.args.locals.now c.loop-ty.locals c.add.new.self (ids c.args.indices.now) (ids c.loop-ty.indices) (ids c.push_local.new.self)
    c.loop-ty.args.items c.push.new.self.items c.in_ok-id.id c.ty-item.is c.loop-ty-test.true c.loop-ty.invariant c.in_ok-id.ensures.id c.in_ok-id.ensures.added c.in_ok-push_local.ensures.pushed.1 c.in_ok-push.ensures.items

use Rattle.std.specs.HashSet.{contains}
use Rattle.walrus_arena.specs.contracts.id.IdPartialEq.TheImpl as id_eq
use Rattle.walrus_arena.specs.contracts.id.LocalSpace.{the_row as local_space}
use Rattle.walrus_refusals.proofs.DistinctLemmas.{turn_stops, turn_goes}
use Rattle.walrus_refusals.proofs.arguments.are_distinct.Goals as goal

pub returns-then-not-branch : goal.returns-then-not-branch
returns-then-not-branch c =
    turn_stops (λ k. contains (id_eq.eq-value local_space).it c.loop-id.met k) c.args.ids.now c.loop-id.id-index c.id-item.result c.loop-id-test.true c.id-item.is c.in_ok-insert.field-0 c.in_ok-insert.ensures.added c.loop-id.invariant c.if-not-branch.true

pub loop-id-preserved : goal.loop-id-preserved
loop-id-preserved c =
    turn_goes (λ k. contains (id_eq.eq-value local_space).it c.loop-id.met k) c.args.ids.now c.loop-id.id-index c.id-item.result c.loop-id-test.true c.id-item.is c.in_ok-insert.field-0 c.in_ok-insert.ensures.added c.loop-id.invariant
    (id_eq.eq-value local_space).it c.ids_go_by_number.ensures.equal (λ k. contains (id_eq.eq-value local_space).it c.insert.new.self k) c.in_ok-insert.ensures.updates.0 c.if-not-branch.false

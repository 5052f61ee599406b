use Rattle.std.specs.HashSet.{keys}
use Rattle.walrus_arena.specs.contracts.id.IdPartialEq.TheImpl as id_eq
use Rattle.walrus_roots.specs.Items.{item}
use Rattle.walrus_passes.specs.Keeping.{IsHeld}
use Rattle.walrus_passes.proofs.SetLemmas.{one_inserted}
use Rattle.walrus_passes.proofs.used.set_of.Goals as goal

pub loop-index-preserved : goal.loop-index-preserved
loop-index-preserved g c =
    one_inserted (id_eq.eq-value g.row.S).it c.ids_go_by_number.ensures.equal (keys c.loop-index.set) (keys c.insert.new.self) c.loop-index.index c.from_index.result (λ id. IsHeld c.args.kept.now (item c.args.space id))
    c.from_index.ensures (c.has.ensures.0 c.if-not-has.false) c.in_ok-insert.ensures.updates.0 c.loop-index.invariant

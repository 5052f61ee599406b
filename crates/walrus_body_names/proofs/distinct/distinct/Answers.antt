use Rattle.walrus_arena.specs.contracts.id.IdOrd.TheImpl as id_ord
use Rattle.walrus_arena.specs.contracts.id.IdPartialEq.TheImpl as id_eq
use Rattle.walrus_body_names.proofs.Sets.{is_set}
use Rattle.walrus_body_names.proofs.distinct.distinct.Goals as goal

pub returns : goal.returns
returns g c =
    is_set (id_eq.eq-value g.row.S).it (id_ord.cmp-value g.row.S).it c.ids_go_by_number.ensures.equal c.ids_go_by_number.ensures.ordered
    c.args.ids.items c.sort.new.self.items c.dedup.new.self.items c.sort.ensures.permutation c.in_ok-sort.ensures.sorted c.dedup.ensures.filtered

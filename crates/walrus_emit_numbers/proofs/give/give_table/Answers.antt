use Rattle.std.proofs.Common.{◌∙◌, refl, subst, sym}
use Rattle.walrus_index_maps.specs.Maps.{Indices}
use Rattle.walrus_index_maps.specs.Views.{indices}
use Rattle.walrus_emit_numbers.specs.Numbers.{AreCounted}
use Rattle.walrus_emit_numbers.proofs.Counting.{counted_next, has_room, none_is, with_tables}
use Rattle.walrus_emit_numbers.proofs.give.give_table.Goals as goal

pub push_table-requires-clause-room : goal.push_table-requires-clause-room
push_table-requires-clause-room c =
    has_room (indices c.args.maps.now).tables c.args.id _ refl c.requires.tables c.ids_fit.ensures (sym c.get_table_index.ensures ∙ none_is _ c.if-is_none.ensures)

pub returns-in_ok-push_table-clause-counted : goal.returns-in_ok-push_table-clause-counted
returns-in_ok-push_table-clause-counted c =
    let m = indices c.args.maps.now in
    subst (λ (m : Indices). AreCounted m) (sym c.in_ok-push_table.ensures.given.1)
    (with_tables m _ c.requires (counted_next m.tables c.args.id c.requires.tables c.ids_fit.ensures (sym c.get_table_index.ensures ∙ none_is _ c.if-is_none.ensures)))

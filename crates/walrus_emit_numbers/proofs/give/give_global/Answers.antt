use Rattle.std.proofs.Common.{◌∙◌, refl, subst, sym}
use Rattle.walrus_index_maps.specs.Maps.{Indices}
use Rattle.walrus_index_maps.specs.Views.{indices}
use Rattle.walrus_emit_numbers.specs.Numbers.{AreCounted}
use Rattle.walrus_emit_numbers.proofs.Counting.{counted_next, has_room, none_is, with_globals}
use Rattle.walrus_emit_numbers.proofs.give.give_global.Goals as goal

pub push_global-requires-clause-room : goal.push_global-requires-clause-room
push_global-requires-clause-room c =
    has_room (indices c.args.maps.now).globals c.args.id _ refl c.requires.globals c.ids_fit.ensures (sym c.get_global_index.ensures ∙ none_is _ c.if-is_none.ensures)

pub returns-in_ok-push_global-clause-counted : goal.returns-in_ok-push_global-clause-counted
returns-in_ok-push_global-clause-counted c =
    let m = indices c.args.maps.now in
    subst (λ (m : Indices). AreCounted m) (sym c.in_ok-push_global.ensures.given.1)
    (with_globals m _ c.requires (counted_next m.globals c.args.id c.requires.globals c.ids_fit.ensures (sym c.get_global_index.ensures ∙ none_is _ c.if-is_none.ensures)))

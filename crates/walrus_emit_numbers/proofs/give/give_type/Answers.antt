use Rattle.std.proofs.Common.{◌∙◌, refl, subst, sym}
use Rattle.walrus_index_maps.specs.Maps.{Indices}
use Rattle.walrus_index_maps.specs.Views.{indices}
use Rattle.walrus_emit_numbers.specs.Numbers.{AreCounted}
use Rattle.walrus_emit_numbers.proofs.Counting.{counted_next, has_room, none_is, with_types}
use Rattle.walrus_emit_numbers.proofs.give.give_type.Goals as goal

pub push_type-requires-clause-room : goal.push_type-requires-clause-room
push_type-requires-clause-room c =
    has_room (indices c.args.maps.now).types c.args.id _ refl c.requires.types c.ids_fit.ensures (sym c.get_type_index.ensures ∙ none_is _ c.if-is_none.ensures)

pub returns-in_ok-push_type-clause-counted : goal.returns-in_ok-push_type-clause-counted
returns-in_ok-push_type-clause-counted c =
    let m = indices c.args.maps.now in
    subst (λ (m : Indices). AreCounted m) (sym c.in_ok-push_type.ensures.given.1)
    (with_types m _ c.requires (counted_next m.types c.args.id c.requires.types c.ids_fit.ensures (sym c.get_type_index.ensures ∙ none_is _ c.if-is_none.ensures)))

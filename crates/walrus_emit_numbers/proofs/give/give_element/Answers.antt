use Rattle.std.proofs.Common.{◌∙◌, refl, subst, sym}
use Rattle.walrus_index_maps.specs.Maps.{Indices}
use Rattle.walrus_index_maps.specs.Views.{indices}
use Rattle.walrus_emit_numbers.specs.Numbers.{AreCounted}
use Rattle.walrus_emit_numbers.proofs.Counting.{counted_next, has_room, none_is, with_elements}
use Rattle.walrus_emit_numbers.proofs.give.give_element.Goals as goal

pub push_element-requires-clause-room : goal.push_element-requires-clause-room
push_element-requires-clause-room c =
    has_room (indices c.args.maps.now).elements c.args.id _ refl c.requires.elements c.ids_fit.ensures (sym c.get_element_index.ensures ∙ none_is _ c.if-is_none.ensures)

pub returns-in_ok-push_element-clause-counted : goal.returns-in_ok-push_element-clause-counted
returns-in_ok-push_element-clause-counted c =
    let m = indices c.args.maps.now in
    subst (λ (m : Indices). AreCounted m) (sym c.in_ok-push_element.ensures.given.1)
    (with_elements m _ c.requires (counted_next m.elements c.args.id c.requires.elements c.ids_fit.ensures (sym c.get_element_index.ensures ∙ none_is _ c.if-is_none.ensures)))

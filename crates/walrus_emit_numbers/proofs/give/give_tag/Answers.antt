use Rattle.std.proofs.Common.{◌∙◌, refl, subst, sym}
use Rattle.walrus_index_maps.specs.Maps.{Indices}
use Rattle.walrus_index_maps.specs.Views.{indices}
use Rattle.walrus_emit_numbers.specs.Numbers.{AreCounted}
use Rattle.walrus_emit_numbers.proofs.Counting.{counted_next, has_room, none_is, with_tags}
use Rattle.walrus_emit_numbers.proofs.give.give_tag.Goals as goal

pub push_tag-requires-clause-room : goal.push_tag-requires-clause-room
push_tag-requires-clause-room c =
    has_room (indices c.args.maps.now).tags c.args.id _ refl c.requires.tags c.ids_fit.ensures (sym c.get_tag_index.ensures ∙ none_is _ c.if-is_none.ensures)

pub returns-in_ok-push_tag-clause-counted : goal.returns-in_ok-push_tag-clause-counted
returns-in_ok-push_tag-clause-counted c =
    let m = indices c.args.maps.now in
    subst (λ (m : Indices). AreCounted m) (sym c.in_ok-push_tag.ensures.given.1)
    (with_tags m _ c.requires (counted_next m.tags c.args.id c.requires.tags c.ids_fit.ensures (sym c.get_tag_index.ensures ∙ none_is _ c.if-is_none.ensures)))

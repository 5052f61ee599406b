use Rattle.std.proofs.Common.{◌∙◌, refl, subst, sym}
use Rattle.walrus_index_maps.specs.Maps.{Indices}
use Rattle.walrus_index_maps.specs.Views.{indices}
use Rattle.walrus_emit_numbers.specs.Numbers.{AreCounted}
use Rattle.walrus_emit_numbers.proofs.Counting.{counted_next, has_room, none_is, with_functions}
use Rattle.walrus_emit_numbers.proofs.give.give_func.Goals as goal

pub push_func-requires-clause-room : goal.push_func-requires-clause-room
push_func-requires-clause-room c =
    has_room (indices c.args.maps.now).functions c.args.id _ refl c.requires.functions c.ids_fit.ensures (sym c.get_func_index.ensures ∙ none_is _ c.if-is_none.ensures)

pub returns-in_ok-push_func-clause-counted : goal.returns-in_ok-push_func-clause-counted
returns-in_ok-push_func-clause-counted c =
    let m = indices c.args.maps.now in
    subst (λ (m : Indices). AreCounted m) (sym c.in_ok-push_func.ensures.given.1)
    (with_functions m _ c.requires (counted_next m.functions c.args.id c.requires.functions c.ids_fit.ensures (sym c.get_func_index.ensures ∙ none_is _ c.if-is_none.ensures)))

use Rattle.std.proofs.Common.{◌∙◌, refl, subst, sym}
use Rattle.walrus_index_maps.specs.Maps.{Indices}
use Rattle.walrus_index_maps.specs.Views.{indices}
use Rattle.walrus_emit_numbers.specs.Numbers.{AreCounted}
use Rattle.walrus_emit_numbers.proofs.Counting.{counted_next, has_room, none_is, with_memories}
use Rattle.walrus_emit_numbers.proofs.give.give_memory.Goals as goal

pub push_memory-requires-clause-room : goal.push_memory-requires-clause-room
push_memory-requires-clause-room c =
    has_room (indices c.args.maps.now).memories c.args.id _ refl c.requires.memories c.ids_fit.ensures (sym c.get_memory_index.ensures ∙ none_is _ c.if-is_none.ensures)

pub returns-in_ok-push_memory-clause-counted : goal.returns-in_ok-push_memory-clause-counted
returns-in_ok-push_memory-clause-counted c =
    let m = indices c.args.maps.now in
    subst (λ (m : Indices). AreCounted m) (sym c.in_ok-push_memory.ensures.given.1)
    (with_memories m _ c.requires (counted_next m.memories c.args.id c.requires.memories c.ids_fit.ensures (sym c.get_memory_index.ensures ∙ none_is _ c.if-is_none.ensures)))

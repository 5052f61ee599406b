use Rattle.std.proofs.Common.{map, take}
use Rattle.walrus_index_maps.specs.Views.{ids}
use Rattle.walrus_payload_readers.specs.Bearers.{given_of}
use Rattle.walrus_item_names.specs.Holder.{holder}
use Rattle.walrus_item_names.specs.Sent.{sent_names}
use Rattle.walrus_item_names.specs.Gives.{GivesNames}
use Rattle.walrus_item_names.proofs.give.give_names.Given as goal

abbrev pub invariant-loop-given : goal.invariant-loop-given
invariant-loop-given l =
    GivesNames (sent_names l.skips_empty (ids l.maps) (map given_of (take l.given-index l.names))) (holder l.fn.types l.fn.funcs l.fn.tables l.fn.memories l.fn.tags l.fn.globals l.fn.elements l.fn.data_segments l.fn.locals l.fn.own) (holder l.types l.funcs l.tables l.memories l.tags l.globals l.elements l.data_segments l.locals l.own)

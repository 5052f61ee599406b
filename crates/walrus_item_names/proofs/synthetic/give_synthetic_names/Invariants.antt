use Rattle.std.proofs.Common.{◌≤◌, ◌-◌, false, length}
use Rattle.walrus_index_maps.specs.Views.{ids}
use Rattle.walrus_item_names.specs.Holder.{holder}
use Rattle.walrus_item_names.specs.Sent.{sent_names}
use Rattle.walrus_item_names.specs.Gives.{GivesNames}
use Rattle.walrus_item_names.specs.Synthetic.{each_below, synthetic_at}
use Rattle.walrus_item_names.proofs.synthetic.give_synthetic_names.Given as goal

abbrev pub invariant-loop-id : goal.invariant-loop-id
invariant-loop-id l = record {
  inside : l.number ≤ length (ids l.maps).functions;
  gives : GivesNames (sent_names false (ids l.maps) (each_below l.number (synthetic_at (ids l.maps) (holder l.fn.types l.fn.funcs l.fn.tables l.fn.memories l.fn.tags l.fn.globals l.fn.elements l.fn.data_segments l.fn.locals l.fn.own)))) (holder l.fn.types l.fn.funcs l.fn.tables l.fn.memories l.fn.tags l.fn.globals l.fn.elements l.fn.data_segments l.fn.locals l.fn.own) (holder l.types l.funcs l.tables l.memories l.tags l.globals l.elements l.data_segments l.locals l.own);
}

abbrev pub decreases-loop-id : goal.decreases-loop-id
decreases-loop-id l = length (ids l.maps).functions - l.number

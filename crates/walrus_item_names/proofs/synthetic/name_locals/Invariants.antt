use Rattle.std.proofs.Common.{◌≤◌, ◌-◌, false, length}
use Rattle.walrus_index_maps.specs.Views.{ids}
use Rattle.walrus_item_names.specs.Holder.{holder}
use Rattle.walrus_payloads_into.specs.Numbered.{locals_in}
use Rattle.walrus_item_names.specs.Sent.{sent_names}
use Rattle.walrus_item_names.specs.Gives.{GivesNames}
use Rattle.walrus_item_names.specs.Synthetic.{each_below, local_names}
use Rattle.walrus_item_names.proofs.synthetic.name_locals.Given as goal

abbrev pub invariant-loop-target : goal.invariant-loop-target
invariant-loop-target l = record {
  inside : l.number ≤ length (locals_in (ids l.maps) l.function);
  gives : GivesNames (sent_names false (ids l.maps) (each_below l.number (local_names l.function l.args))) (holder l.fn.types l.fn.funcs l.fn.tables l.fn.memories l.fn.tags l.fn.globals l.fn.elements l.fn.data_segments l.fn.locals l.fn.own) (holder l.types l.funcs l.tables l.memories l.tags l.globals l.elements l.data_segments l.locals l.own);
}

abbrev pub decreases-loop-target : goal.decreases-loop-target
decreases-loop-target l = length (locals_in (ids l.maps) l.function) - l.number

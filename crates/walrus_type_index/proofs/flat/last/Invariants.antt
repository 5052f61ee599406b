use Rattle.std.proofs.Common.{Option, None, length, ◌-◌}
use Rattle.walrus_type_index.specs.Places.{Hashed, kinds_in}
use Rattle.walrus_type_index.specs.Targets.{target_kind}
use Rattle.walrus_type_index.specs.Flat.{slots, Finds}
use Rattle.walrus_type_index.proofs.flat.last.Given as goal

-- what is found from here is what is found in all
abbrev pub invariant-loop-step : goal.invariant-loop-step
invariant-loop-step l = (result : Option Hashed)
    → Finds (kinds_in l.types.slots) (slots l.nodes) l.top l.hash (target_kind l.target) l.own l.found (length l.nodes - l.step) result
    → Finds (kinds_in l.types.slots) (slots l.nodes) l.fn.top l.hash (target_kind l.target) l.own None (length l.nodes) result

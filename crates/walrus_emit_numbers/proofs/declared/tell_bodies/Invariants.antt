use Rattle.std.specs.Prelude.{◌≡◌, fold, take}
use Rattle.walrus_emit_numbers.specs.Undeclared.{mark_body}
use Rattle.walrus_emit_numbers.proofs.declared.tell_bodies.Given as goal

abbrev pub invariant-loop-body : goal.invariant-loop-body
invariant-loop-body l = l.told.flags.items ≡ fold mark_body l.fn.told.flags.items (take l.body-index l.facts)

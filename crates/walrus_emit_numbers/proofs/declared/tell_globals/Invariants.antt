use Rattle.std.specs.Prelude.{◌≡◌, fold}
use Rattle.walrus_module.specs.walrus_collections.LookUps.{items}
use Rattle.walrus_emit_numbers.specs.Undeclared.{mark_global}
use Rattle.walrus_emit_numbers.proofs.declared.tell_globals.Given as goal

abbrev pub invariant-loop-global : goal.invariant-loop-global
invariant-loop-global l = record {
  can : goal.iterator-loop-global.can_next l.global-iterator;
  ends : goal.iterator-loop-global.is_finite l.global-iterator;
  rest : fold mark_global l.told.flags.items l.global-iterator ≡ fold mark_global l.fn.told.flags.items (items l.globals);
}

use Rattle.std.specs.Prelude.{◌≡◌, fold}
use Rattle.walrus_module.specs.walrus_collections.LookUps.{items}
use Rattle.walrus_emit_numbers.specs.Undeclared.{mark_export}
use Rattle.walrus_emit_numbers.proofs.declared.hold_exports.Given as goal

abbrev pub invariant-loop-export : goal.invariant-loop-export
invariant-loop-export l = record {
  can : goal.iterator-loop-export.can_next l.export-iterator;
  ends : goal.iterator-loop-export.is_finite l.export-iterator;
  rest : fold mark_export l.held.flags.items l.export-iterator ≡ fold mark_export l.fn.held.flags.items (items l.exports);
}

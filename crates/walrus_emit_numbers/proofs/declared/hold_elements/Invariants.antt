use Rattle.std.specs.Prelude.{◌≡◌, fold}
use Rattle.walrus_module.specs.walrus_collections.LookUps.{items}
use Rattle.walrus_emit_numbers.specs.Undeclared.{mark_element}
use Rattle.walrus_emit_numbers.proofs.declared.hold_elements.Given as goal

abbrev pub invariant-loop-element : goal.invariant-loop-element
invariant-loop-element l = record {
  can : goal.iterator-loop-element.can_next l.element-iterator;
  ends : goal.iterator-loop-element.is_finite l.element-iterator;
  rest : fold mark_element l.held.flags.items l.element-iterator ≡ fold mark_element l.fn.held.flags.items (items l.elements);
}

use Rattle.std.proofs.Common.{◌≡◌, ◌++◌}
use Rattle.std.specs.HashSet.{keys}
use Rattle.wasm_formats.specs.declared.fault.Space.TheVariants as spaces
use Rattle.walrus_reasons.specs.Segments.{live_items}
use Rattle.walrus_reasons.proofs.segments.add_listed_elements.Given as goal

abbrev pub invariant-loop-id : goal.invariant-loop-id
invariant-loop-id l = record {
  can : (goal.iterator-loop-id).can_next l.id-iterator;
  ends : (goal.iterator-loop-id).is_finite l.id-iterator;
  rest : l.named.items ++ live_items l.elements spaces.Element l.id-iterator ≡ l.fn.named.items ++ live_items l.elements spaces.Element (keys l.set);
}

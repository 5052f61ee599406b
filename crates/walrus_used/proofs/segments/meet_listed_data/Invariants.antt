use Rattle.std.proofs.Common.{◌≡◌}
use Rattle.std.specs.List.{fold}
use Rattle.std.specs.HashSet.{keys}
use Rattle.wasm_formats.specs.declared.fault.Space.TheVariants as spaces
use Rattle.walrus_marks.specs.Marks.{meet}
use Rattle.walrus_used.specs.Looks.{live_items}
use Rattle.walrus_used.proofs.segments.meet_listed_data.Given as goal

abbrev pub invariant-loop-id : goal.invariant-loop-id
invariant-loop-id l = record {
  can : (goal.iterator-loop-id).can_next l.id-iterator;
  ends : (goal.iterator-loop-id).is_finite l.id-iterator;
  rest : fold meet l.marks (live_items l.segments spaces.Data l.id-iterator) ≡ fold meet l.fn.marks (live_items l.segments spaces.Data (keys l.set));
}

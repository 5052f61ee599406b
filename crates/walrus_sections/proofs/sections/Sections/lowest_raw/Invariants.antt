use Rattle.std.proofs.Common.{◌≡◌, find}
use Rattle.walrus_arena.specs.Arena.{entries}
use Rattle.walrus_sections.specs.Sections.{is_raw_named}
use Rattle.walrus_sections.proofs.sections.Sections.lowest_raw.Given as goal

abbrev pub invariant-loop-id : goal.invariant-loop-id
invariant-loop-id g l = record {
  can : (goal.iterator-loop-id g).can_next l.id-iterator;
  ends : (goal.iterator-loop-id g).is_finite l.id-iterator;
  first : find (λ e. is_raw_named l.name e.1) l.id-iterator ≡ find (λ e. is_raw_named l.name e.1) (entries l.self);
}

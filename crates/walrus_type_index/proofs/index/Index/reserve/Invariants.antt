use Rattle.std.proofs.Common.{◌≡◌, ◌≤◌}
use Rattle.walrus_type_index.proofs.index.Index.reserve.Given as goal

abbrev pub invariant-loop : goal.invariant-loop
invariant-loop l = record {
  ids : l.self.ids ≡ l.fn.self.ids;
  kept : l.fn.self.room ≤ l.self.room;
  room : l.wanted ≤ l.self.room;
}

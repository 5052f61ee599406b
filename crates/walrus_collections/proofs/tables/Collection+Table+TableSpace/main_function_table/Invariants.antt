use Rattle.std.proofs.Common.{◌≡◌, ◌++◌, ℕ, filter, map}
use Rattle.std.specs.Option.{option_to_list}
use Rattle.walrus_module_items.specs.declared.table.Table.{Table}
use Rattle.walrus_collections.specs.Answers.{ids_of, at_most_one}
use Rattle.walrus_collections.specs.Tests.{is_function_table}
use Rattle.walrus_collections.proofs.tables.Collection+Table+TableSpace.main_function_table.Given as goal

abbrev pub invariant-loop-id : goal.invariant-loop-id
invariant-loop-id l = record {
  can : (goal.iterator-loop-id).can_next l.id-iterator;
  ends : (goal.iterator-loop-id).is_finite l.id-iterator;
  left : at_most_one (option_to_list l.found ++ map (λ (e : ℕ × Table). e.0) (filter (λ (e : ℕ × Table). is_function_table e.1) l.id-iterator)) ≡ at_most_one (ids_of is_function_table l.self);
}

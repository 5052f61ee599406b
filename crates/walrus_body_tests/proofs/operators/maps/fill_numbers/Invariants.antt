use Rattle.std.proofs.Common.{◌≤◌}
use Rattle.walrus_index_maps.specs.Views.{indices}
use Rattle.walrus_body_tests.specs.Given.{given}
use Rattle.walrus_body_tests.proofs.operators.maps.fill_numbers.Given as goal

abbrev pub invariant-loop-turn : goal.invariant-loop-turn
invariant-loop-turn l = given (indices l.numbers) ≤ l.turn

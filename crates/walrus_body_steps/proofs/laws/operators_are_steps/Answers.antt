use Rattle.walrus_body_steps.specs.Stepping.{bodies_start, passes_are_steps, runs_are_steps, openings_are_steps, turns_are_steps, ends_are_steps, hands_are_steps}
use Rattle.walrus_body_steps.proofs.laws.operators_are_steps.Goals as goal

pub returns-clause-starts : goal.returns-clause-starts
returns-clause-starts c = bodies_start

pub returns-clause-passes : goal.returns-clause-passes
returns-clause-passes c = passes_are_steps

pub returns-clause-runs : goal.returns-clause-runs
returns-clause-runs c = runs_are_steps

pub returns-clause-opens : goal.returns-clause-opens
returns-clause-opens c = openings_are_steps

pub returns-clause-turns : goal.returns-clause-turns
returns-clause-turns c = turns_are_steps

pub returns-clause-ends : goal.returns-clause-ends
returns-clause-ends c = ends_are_steps

pub returns-clause-hands : goal.returns-clause-hands
returns-clause-hands c = hands_are_steps

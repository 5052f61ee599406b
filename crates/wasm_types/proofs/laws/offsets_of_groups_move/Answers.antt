use Rattle.wasm_types.proofs.Moved.{groups_move, sections_move}
use Rattle.wasm_types.proofs.laws.offsets_of_groups_move.Goals as goal

pub returns-clause-groups : goal.returns-clause-groups
returns-clause-groups c = groups_move

pub returns-clause-sections : goal.returns-clause-sections
returns-clause-sections c = sections_move

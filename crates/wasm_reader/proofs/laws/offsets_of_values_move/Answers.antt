use Rattle.std.proofs.Common.{true}
use Rattle.wasm_reader.specs.Items.{seen_items}
use Rattle.wasm_reader.proofs.Moved.{offsets_move_by}
use Rattle.wasm_reader.proofs.laws.offsets_of_values_move.Goals as goal

pub returns-clause-value : goal.returns-clause-value
returns-clause-value g c = offsets_move_by g.T.FromReader.takes_memory g.T.FromReader.seen

pub returns-clause-vec : goal.returns-clause-vec
returns-clause-vec g c = offsets_move_by true (seen_items g.T.FromReader.seen)

use Rattle.std.proofs.Common.{rules}
use Rattle.wasm_reader.specs.Items.{vec_at}
use Rattle.wasm_reader.specs.Finals.{vec_final}
use Rattle.wasm_reader.specs.Spellings.{final_early}
use Rattle.wasm_reader.proofs.laws.fronts_of_values_end_early.Goals as goal

pub returns-clause-value : goal.returns-clause-value
returns-clause-value g c = λ features. final_early (g.T.FromReader.reading features) ((g.met.T.FromReader c.lifetimes (search rules)).is_final features)

pub returns-clause-vec : goal.returns-clause-vec
returns-clause-vec g c = λ features limit. final_early (vec_at limit (g.T.FromReader.reading features)) (vec_final limit (g.T.FromReader.reading features) ((g.met.T.FromReader c.lifetimes (search rules)).is_final features))

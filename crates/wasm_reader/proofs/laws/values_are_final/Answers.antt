use Rattle.std.proofs.Common.{rules}
use Rattle.wasm_reader.specs.Finals.{items_final, vec_final}
use Rattle.wasm_reader.proofs.laws.values_are_final.Goals as goal

pub returns-clause-items : goal.returns-clause-items
returns-clause-items g c = λ features count. items_final (g.T.FromReader.reading features) ((g.met.T.FromReader c.lifetimes (search rules)).is_final features) count

pub returns-clause-vec : goal.returns-clause-vec
returns-clause-vec g c = λ features limit. vec_final limit (g.T.FromReader.reading features) ((g.met.T.FromReader c.lifetimes (search rules)).is_final features)

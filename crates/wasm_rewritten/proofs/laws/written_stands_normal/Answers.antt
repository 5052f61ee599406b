use Rattle.wasm_rewritten.proofs.Stood.{stands_normal}
use Rattle.wasm_rewritten.proofs.laws.written_stands_normal.Goals as goal

pub returns : goal.returns
returns c = stands_normal c.picks_keep_through.ensures c.numbered_operators_are_normal.ensures.decide c.normal_operators_are_ruled.ensures.operators c.block_types_keep_parameters_and_results.ensures.renamed c.types_are_merged.ensures.merged c.emitted_types_stand.ensures

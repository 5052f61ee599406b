use Rattle.wasm_rewritten.proofs.Drops.{nothing_dropped}
use Rattle.wasm_rewritten.proofs.laws.rewriting_again_drops_nothing.Goals as goal

pub returns : goal.returns
returns c =
    nothing_dropped c.numbered_operators_are_normal.ensures.decide c.trees_are_one.ensures c.normal_forms_are_normal.ensures.nests c.names_are_renamed.ensures c.reads_once.ensures c.written_is_reached.ensures

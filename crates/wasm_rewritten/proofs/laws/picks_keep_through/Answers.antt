use Rattle.wasm_rewritten.proofs.Picks.{picks_keep_through as law}
use Rattle.wasm_rewritten.proofs.laws.picks_keep_through.Goals as goal

pub returns : goal.returns
returns c = law c.same_kind_is_equality.ensures

use Rattle.wasm_rewritten.proofs.Stood.{entries_kept, kept_decided}
use Rattle.wasm_rewritten.proofs.laws.entries_are_kept.Goals as goal

pub returns-clause-kept : goal.returns-clause-kept
returns-clause-kept c = entries_kept

pub returns-clause-decided : goal.returns-clause-decided
returns-clause-decided c = kept_decided

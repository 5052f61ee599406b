use Rattle.wasm_rewritten.proofs.LocalsNamed.{locals_named_so}
use Rattle.wasm_rewritten.proofs.laws.files_name_their_locals.Goals as goal

pub returns : goal.returns
returns c = locals_named_so c.types_are_merged.ensures.merged

use Rattle.wasm_ruled_renamed.proofs.Exprs.{exprs_renamed, offsets_renamed}
use Rattle.wasm_ruled_renamed.proofs.Renaming.{operators_renamed}
use Rattle.wasm_ruled_renamed.proofs.laws.renamed_operators_are_ruled.Goals as goal

pub returns-clause-operators : goal.returns-clause-operators
returns-clause-operators c = operators_renamed

pub returns-clause-exprs : goal.returns-clause-exprs
returns-clause-exprs c = exprs_renamed

pub returns-clause-offsets : goal.returns-clause-offsets
returns-clause-offsets c = offsets_renamed

use Rattle.std.proofs.Common.{◌∙◌, sym}
use Rattle.std.proofs.lemmas.Bool.{eqb-true, eq-eqb}
use Rattle.wasm_features.proofs.Names.{within_of_and, and_of_within}
use Rattle.wasm_features.proofs.WasmFeatures.contains.Goals as goal

pub returns-clause-within : goal.returns-clause-within
returns-clause-within c holds = within_of_and c.args.other c.args.self.now (eqb-true _ _ (sym (c.contains.ensures tt) ∙ holds))

pub returns-clause-all : goal.returns-clause-all
returns-clause-all c named within = c.contains.ensures tt ∙ eq-eqb _ _ (and_of_within c.args.other c.args.self.now named within)

use Rattle.wasm_normal_form.proofs.Nesting.{normal_nests, normal_again}
use Rattle.wasm_normal_form.proofs.Renaming.{renamed_again}
use Rattle.wasm_normal_form.proofs.laws.normal_forms_are_normal.Goals as goal

pub returns-clause-nests : goal.returns-clause-nests
returns-clause-nests c = normal_nests

pub returns-clause-again : goal.returns-clause-again
returns-clause-again c = normal_again

pub returns-clause-renamed : goal.returns-clause-renamed
returns-clause-renamed c number pick ops t same h = renamed_again number pick ops t same h

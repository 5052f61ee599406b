use Rattle.wasm_name_payloads.specs.Kept.{last_names_win}
use Rattle.wasm_name_payloads.proofs.laws.last_names_win.Goals as goal

pub returns : goal.returns
returns c = last_names_win

use Rattle.std.specs.Prelude.{refl}
use Rattle.wasm_module_rows.proofs.picks_stand.Goals as goal

pub returns : goal.returns
returns c = record { of_types = refl; of_picks = refl }

-- Lemmas: a module whose items have spellings is within the limits of the format.
use Rattle.std.specs.Prelude.{◌≤◌, length}
use Rattle.std.proofs.Common.{arith}
use Rattle.wasm_ruled_modules.specs.Rules.{around_bodies}
use Rattle.wasm_canonical.specs.Due.{bodies_due, own_bytes}
use Rattle.wasm_canonical.specs.Entries.{DueContentsFit}
use Rattle.wasm_canonical.specs.Fits.{RuledBodiesFit}
use Rattle.wasm_canonical.specs.Items.{SpelledItemsFit}
use Rattle.wasm_canonical.specs.Sizes.{ShortFilesFit}
use Rattle.wasm_canonical.specs.Spelled.{file_due}
use Rattle.wasm_canonical.proofs.Entries.{filter_less}

pub items_fit : RuledBodiesFit → ShortFilesFit → DueContentsFit → SpelledItemsFit
items_fit bodies_fit short_fit contents_fit features counted first last m ruled entries spelled not_long short =
    let a = around_bodies features counted m in
    let less = filter_less (own_bytes a) m.functions in
    let le = ruled.lists.functions in
    let few : length (bodies_due a m) ≤ 1000000 = omega (arith, less, le) in record {
      file = short_fit features (file_due features counted first last m) short (contents_fit features (bodies_due a m) counted first last m ruled.lists entries not_long few);
      bodies = bodies_fit a m.functions ruled.bodies spelled;
      short = not_long;
    }

use Rattle.std.proofs.Common.{arith, ◌≤◌, sym, ◌∙◌}
use Rattle.std.proofs.lemmas.Bool.{le-leb}
use Rattle.wasm_reader.proofs.Bits.{seven_fit_signed}
use Rattle.wasm_reader.proofs.number.signed_fits.Goals as goal

pub returns-then-left-ge7 : goal.returns-then-left-ge7
returns-then-left-ge7 c =
    let wide : 7 ≤ c.args.left = omega arith in
    le-leb 7 c.args.left wide ∙ sym (seven_fit_signed c.args.left c.args.byte (omega arith) wide)

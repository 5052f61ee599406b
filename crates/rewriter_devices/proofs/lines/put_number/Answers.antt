-- A number below 2 ^ 32 has at most ten digits.
use Rattle.std.proofs.Common.{◌≤◌, ◌<◌, ◌^◌, ℕ, length, arith, decimal}
use Rattle.std.proofs.lemmas.Fmt.{length-decimal-le}
use Rattle.rewriter_devices.proofs.lines.put_number.Goals as goal

ten_digits : (n : ℕ) → n < 2 ^ 32 → length (decimal n) ≤ 10
ten_digits n h = length-decimal-le 10 n (omega arith) (omega arith) (omega arith)

pub write_digits-requires : goal.write_digits-requires
write_digits-requires c =
    let short : length (decimal c.from.result) ≤ 10 = ten_digits c.from.result (omega arith) in
    (omega arith, omega arith)

pub returns-clause-starts : goal.returns-clause-starts
returns-clause-starts c =
    let short : length (decimal c.from.result) ≤ 10 = ten_digits c.from.result (omega arith) in
    (omega arith, omega arith)

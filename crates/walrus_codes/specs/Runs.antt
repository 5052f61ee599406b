-- Codes in runs: operators of consecutive codes.
use Rattle.std.specs.Prelude.{ℕ, ◌+◌, ◌-◌, ◌&&◌, nat_le, nat_lt, List, [], ◌∷◌, length, slice_get, Option, None, if◌then◌else◌}
use Rattle.wasm_operators.specs.declared.op_code.OpCode.{OpCode}
use Rattle.wasm_operators.specs.Operators.{op_code}

-- a code of one byte, and those behind fb, fc, fd and fe
abbrev pub byte : ℕ → OpCode
byte n = op_code 0 n

abbrev pub object : ℕ → OpCode
object n = op_code 0xfb n

abbrev pub bulk : ℕ → OpCode
bulk n = op_code 0xfc n

abbrev pub vector : ℕ → OpCode
vector n = op_code 0xfd n

abbrev pub atomic : ℕ → OpCode
atomic n = op_code 0xfe n

-- the first of them has this number, and each later one the next
pub record Run (A : Type 0) : Type 0 where
  pub first : ℕ
  pub ops : List A

abbrev pub run : {A : Type 0} → ℕ → List A → Run A
run first ops = record { first = first; ops = ops }

-- what the first run that reaches to a number has there
abbrev pub in_runs : {A : Type 0} → List (Run A) → ℕ → Option A
in_runs [] n = None
in_runs (r ∷ rs) n =
    if nat_le r.first n && nat_lt n (r.first + length r.ops) then slice_get r.ops (n - r.first)
    else in_runs rs n

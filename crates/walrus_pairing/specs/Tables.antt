-- Numeric operators of any count of operands, by number.
use Rattle.std.specs.Prelude.{ℕ, ◌-◌, nat_lt, List, Option, Some, None, slice_index_or, if◌then◌else◌}
use Rattle.walrus_codes.specs.walrus_instr.declared.operators.UnaryOp.{UnaryOp}
use Rattle.walrus_codes.specs.walrus_instr.declared.operators.BinaryOp.{BinaryOp}
use Rattle.walrus_codes.specs.walrus_instr.declared.operators.TernaryOp.{TernaryOp}
use Rattle.walrus_pairing.specs.declared.code_tables.numeric.Numeric.{Numeric}
use Rattle.walrus_pairing.specs.declared.code_tables.numeric.Numeric.TheVariants.{Nothing, Unary, Binary, Ternary}

-- what stands in a table for a number, where the table begins with a number
unfoldable pub entry_at : List Numeric → ℕ → ℕ → Numeric
entry_at table first n = if nat_lt n first then Nothing else slice_index_or table (n - first) Nothing

-- the operator, if it has so many operands
abbrev pub unary : Numeric → Option UnaryOp
unary (Unary op) = Some op
unary Nothing = None
unary (Binary op) = None
unary (Ternary op) = None

abbrev pub binary : Numeric → Option BinaryOp
binary (Binary op) = Some op
binary Nothing = None
binary (Unary op) = None
binary (Ternary op) = None

abbrev pub ternary : Numeric → Option TernaryOp
ternary (Ternary op) = Some op
ternary Nothing = None
ternary (Unary op) = None
ternary (Binary op) = None

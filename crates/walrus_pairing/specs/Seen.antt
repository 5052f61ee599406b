-- What is answered, as contracts see it.
use Rattle.std.specs.Prelude.{Bool, true, false, Option, Some, None, Result, Ok, Err}
use Rattle.walrus_operators.specs.wasm_operators.Operators.{Seen}
use Rattle.walrus_operators.specs.declared.immediates.Immediates.{Immediates}
use Rattle.walrus_operators.specs.declared.immediates.Immediates.TheVariants.{Zero}
use Rattle.walrus_operators.specs.declared.operator.Operator.{Operator}
use Rattle.walrus_operators.specs.Operators.{seen}
use Rattle.walrus_codes.specs.walrus_instr.declared.instr.Instr.{Instr}
use Rattle.walrus_codes.specs.walrus_instr.declared.instr.Instr.TheVariants.{AtomicFence}
use Rattle.walrus_pairing.specs.declared.error.PairError.{PairError}
use Rattle.walrus_pairing.specs.Looks.{Or}

-- an operator, none, or a refusal
abbrev pub as_seen : Result (Option Operator) PairError → Or (Option Seen)
as_seen (Ok None) = Ok None
as_seen (Ok (Some op)) = Ok (Some (seen op))
as_seen (Err e) = Err e

-- a reserved byte, whose item is that of a lane 0; all else of immediates is told by their items
abbrev pub is_reserved : Immediates → Bool
is_reserved Zero = true
is_reserved _ = false

-- the answer is an operator with a reserved byte
abbrev pub has_reserved_byte : Result (Option Operator) PairError → Bool
has_reserved_byte (Ok (Some op)) = is_reserved op.immediates
has_reserved_byte _ = false

abbrev pub is_fence : Instr → Bool
is_fence AtomicFence = true
is_fence _ = false

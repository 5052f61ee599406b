-- What operators are to the nesting of a body, by what the table says of them (Core Specification, control instructions).
use Rattle.std.specs.Prelude.{ℕ, Bool, true, false, [], Option, Some}
use Rattle.wasm_operators.specs.declared.entry.Flow.{Flow}
use Rattle.wasm_operators.specs.declared.entry.Flow.TheVariants as flows
use Rattle.wasm_operators.specs.Operators.{Seen, op_code, flow_of}

-- an operator, and the place that it carries, if it carries one
pub record Placed : Type 0 where
  pub op : Seen
  pub place : Option ℕ

abbrev pub placed : Seen → Option ℕ → Placed
placed op place = record { op = op; place = place }

pub data Role : Type 0 where
  -- `nop`
  Passes : Role
  -- it stands in a sequence
  Runs : Role
  -- it opens a block, and with it the block's first sequence
  Opens : Role
  -- it ends one sequence of a block and begins the next
  Turns : Role
  -- it ends a block, or the body
  Ends : Role

abbrev pub role_in : Option Flow → Role
role_in (Some flows.Passes) = Passes
role_in (Some flows.OpensBlock) = Opens
role_in (Some flows.OpensLoop) = Opens
role_in (Some flows.OpensIf) = Opens
role_in (Some flows.OpensTry) = Opens
role_in (Some flows.OpensTryTable) = Opens
role_in (Some flows.Else) = Turns
role_in (Some flows.Catch) = Turns
role_in (Some flows.CatchAll) = Turns
role_in (Some flows.Delegate) = Ends
role_in (Some flows.End) = Ends
role_in _ = Runs

abbrev pub role : Seen → Role
role op = role_in (flow_of op.code)

-- behind it nothing is reached in its sequence: `unreachable`, `br`, `br_table`, `return`, `throw`, `rethrow` and
-- `throw_ref`; a tail call cuts nothing
abbrev pub cuts_in : Option Flow → Bool
cuts_in (Some flows.Traps) = true
cuts_in (Some flows.Branches) = true
cuts_in (Some flows.Selects) = true
cuts_in (Some flows.Returns) = true
cuts_in (Some flows.Throws) = true
cuts_in (Some flows.ThrowsOrTraps) = true
cuts_in _ = false

abbrev pub cuts : Seen → Bool
cuts op = cuts_in (flow_of op.code)

abbrev pub is_if_in : Option Flow → Bool
is_if_in (Some flows.OpensIf) = true
is_if_in _ = false

abbrev pub is_if : Seen → Bool
is_if op = is_if_in (flow_of op.code)

abbrev pub is_delegate_in : Option Flow → Bool
is_delegate_in (Some flows.Delegate) = true
is_delegate_in _ = false

abbrev pub is_delegate : Seen → Bool
is_delegate op = is_delegate_in (flow_of op.code)

-- else, catch, catch_all, end and delegate count for nothing in a body's size
abbrev pub weight_of : Role → ℕ
weight_of Turns = 0
weight_of Ends = 0
weight_of _ = 1

-- an operator of one byte
abbrev pub bare : ℕ → Seen
bare byte = record { code = op_code 0 byte; items = [] }

abbrev pub else_op : Seen
else_op = bare 0x05

abbrev pub end_op : Seen
end_op = bare 0x0b

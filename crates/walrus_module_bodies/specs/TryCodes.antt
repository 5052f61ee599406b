-- The operator that opens a legacy `try` (the proposal on legacy exceptions).
use Rattle.std.specs.Prelude.{◌==◌, ◌&&◌, Bool}
use Rattle.walrus_module_env.specs.walrus_body_parser.wasm_operators.declared.op_code.OpCode.{OpCode}

-- whether the operator of this code opens one
abbrev pub opens_try : OpCode → Bool
opens_try code = code.prefix == 0 && code.number == 6

-- The operators of constant expressions, one by one (Core Specification, valid expressions: constant expressions).
use Rattle.wasm_grammar.specs.wasm_operators.declared.op_code.OpCode.{OpCode}
use Rattle.wasm_grammar.specs.wasm_operators.Operators.{op_code}

-- what is so of the code of each
pub record OfConstants (P : OpCode → Type 0) : Type 0 where
  pub global_get : P (op_code 0 0x23)
  pub i32_const : P (op_code 0 0x41)
  pub i64_const : P (op_code 0 0x42)
  pub f32_const : P (op_code 0 0x43)
  pub f64_const : P (op_code 0 0x44)
  pub i32_add : P (op_code 0 0x6a)
  pub i32_sub : P (op_code 0 0x6b)
  pub i32_mul : P (op_code 0 0x6c)
  pub i64_add : P (op_code 0 0x7c)
  pub i64_sub : P (op_code 0 0x7d)
  pub i64_mul : P (op_code 0 0x7e)
  pub ref_null : P (op_code 0 0xd0)
  pub ref_func : P (op_code 0 0xd2)
  pub struct_new : P (op_code 0xfb 0)
  pub struct_new_default : P (op_code 0xfb 1)
  pub array_new : P (op_code 0xfb 6)
  pub array_new_default : P (op_code 0xfb 7)
  pub array_new_fixed : P (op_code 0xfb 8)
  pub any_convert_extern : P (op_code 0xfb 26)
  pub extern_convert_any : P (op_code 0xfb 27)
  pub ref_i31 : P (op_code 0xfb 28)
  pub v128_const : P (op_code 0xfd 12)
